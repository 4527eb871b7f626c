mod Qualifying
mod Colons
