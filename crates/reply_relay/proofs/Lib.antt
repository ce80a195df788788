mod Messages
mod Pieces
