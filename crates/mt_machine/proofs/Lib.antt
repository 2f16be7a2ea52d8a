mod Services
mod Defects
