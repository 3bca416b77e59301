pub mod Bools
pub mod Letter
pub mod LetterLaws
pub mod Tree
pub mod Table
pub mod Trees
-- trees of one shape; the pattern of a node (02, Job 10)
pub mod Alike
pub mod Subpattern
pub mod Lowest
pub mod Naming
pub mod Names
pub mod TableTest
pub mod TreeLaws
