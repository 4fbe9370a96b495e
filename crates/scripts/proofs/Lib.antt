mod Events
mod FirstLine
mod Played
mod Puts
mod Words
