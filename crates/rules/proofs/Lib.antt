pub mod Firsts
pub mod Misfits
pub mod Lawfuls
pub mod Sets
