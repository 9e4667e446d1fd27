pub mod Numbers
pub mod DrawnLines
pub mod Collected
pub mod Packets
pub mod Paging
pub mod Tables
pub mod FilmLinks
