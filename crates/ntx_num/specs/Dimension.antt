-- The bounds on the numbers of a list ("TeX: The Program", sections 150, 157 and 421).
--     IsDimension x        a length in scaled points that TeX allows; is_dimension is its test
--     IsWithin most x      a number of at most this absolute value; is_within is its test
use Rattle.std.specs.Prelude.{ℕ, ◌-◌, ◌^◌, ℤ, pos, neg_ℤ, ◌≤ℤ◌, int_le, Bool, ◌&&◌}

abbrev pub IsWithin : ℕ → ℤ → Type 0
IsWithin most x = (neg_ℤ (pos most) ≤ℤ x) × (x ≤ℤ pos most)

abbrev pub is_within : ℕ → ℤ → Bool
is_within most x = int_le (neg_ℤ (pos most)) x && int_le x (pos most)

-- TeX's largest dimension in scaled points
abbrev pub max_dimension : ℕ
max_dimension = 2 ^ 30 - 1

abbrev pub IsDimension : ℤ → Type 0
IsDimension x = IsWithin max_dimension x

abbrev pub is_dimension : ℤ → Bool
is_dimension x = is_within max_dimension x

-- the largest absolute value of a penalty
abbrev pub max_penalty : ℕ
max_penalty = 2 ^ 31 - 1

-- the greatest order of infinity: 0 is finite, 1 fil, 2 fill, 3 filll
abbrev pub max_order : ℕ
max_order = 3

-- as many nodes may be live at once
abbrev pub max_nodes : ℕ
max_nodes = 2 ^ 18
