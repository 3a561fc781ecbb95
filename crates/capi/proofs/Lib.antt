mod Minus
