mod Legible
