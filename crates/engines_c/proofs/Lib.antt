mod Wiped
