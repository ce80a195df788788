mod OnTexts
mod Read
mod Computed
mod Configured
