mod Leading
mod Standing
mod Naming
