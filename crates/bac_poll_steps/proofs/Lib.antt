mod Fits
mod Taken
