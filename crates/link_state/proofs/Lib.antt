mod Settling
mod Walking
mod Keyed
