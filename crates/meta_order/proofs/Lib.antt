mod Numbered
mod Flat
mod Searching
mod Meaning
mod Blank
