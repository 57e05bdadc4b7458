pub mod CondvarCalls
pub mod CondvarCourses
pub mod WakeCourses
pub mod RwLockRefusals
pub mod Courses
pub mod Halves
