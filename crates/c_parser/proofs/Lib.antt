mod Exits
mod ParseLaws
