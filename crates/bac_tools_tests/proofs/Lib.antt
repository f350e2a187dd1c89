mod Plain
mod AtRest
mod Settled
mod Explained
mod Logged
mod Silence
mod Unfound
mod Honest
