mod SmallerStill
mod GoalsShown
