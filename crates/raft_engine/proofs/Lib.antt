mod Ended
mod Leading
