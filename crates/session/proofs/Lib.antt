mod Keeping
mod Taking
mod Turns
mod Running
mod Going
mod Ending
