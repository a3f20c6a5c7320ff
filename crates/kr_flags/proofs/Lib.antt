mod Chains
mod Needed
mod Taken
