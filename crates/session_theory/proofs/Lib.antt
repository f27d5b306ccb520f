pub mod Systems
pub mod Courses
pub mod Takes
pub mod Laws
