mod Asked
mod GoingBack
mod Keys
mod Groups
mod Elections
mod Passed
mod Rounds
