mod Lists
mod Numbering
mod Swapping
mod Leaving
