mod Countdowns
