mod Hashing
mod Listing
mod Sending
