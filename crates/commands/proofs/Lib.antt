mod Variants
