mod Written
mod Known
mod Rowed
mod Behind
mod Kept
mod Recorded
