-- Two rows that undo one another, and sizes. Assumes nothing.
use Rattle.std.specs.Prelude.{◌≡◌, ℕ, ◌<◌, ◌≤◌, List, slice_index}

abbrev pub Within : ℕ → List ℕ → Type 0
Within n xs = (k : ℕ) → k < n → slice_index xs k < n

abbrev pub Back : ℕ → List ℕ → List ℕ → Type 0
Back n xs ys = (k : ℕ) → k < n → slice_index ys (slice_index xs k) ≡ k

-- the first n of xs are below n, and ys undoes them
abbrev pub Undoes : ℕ → List ℕ → List ℕ → Type 0
Undoes n xs ys = Within n xs × Back n xs ys

abbrev pub Sized : ℕ → List ℕ → Type 0
Sized n sizes = (k : ℕ) → k < n → (2 ≤ slice_index sizes k) × (slice_index sizes k ≤ 4)
