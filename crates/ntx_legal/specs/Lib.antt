-- where a line may end
pub mod Places
-- which items of a line count
pub mod Kept
-- what items come to together
pub mod LineSums
-- how badly a line fits
pub mod Fit
-- the numbers of a line
pub mod Lines
-- totals from which a line takes constant time
pub mod Totals
