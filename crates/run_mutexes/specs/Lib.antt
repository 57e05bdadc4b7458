pub mod LockCourses
