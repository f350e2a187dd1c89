mod Objects
mod WhoIs
