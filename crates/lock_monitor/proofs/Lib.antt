mod Members
mod More
mod Stays
