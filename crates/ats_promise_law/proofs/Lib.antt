mod Promised
mod Stations
mod Printed
mod ToldMeant
