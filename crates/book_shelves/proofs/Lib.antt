mod Ascent
