mod Forms
mod Ways
mod Read
mod Shapes
mod Refused
mod Parts
mod Searched
mod Tests
