mod ReadBack
mod OneByOne
