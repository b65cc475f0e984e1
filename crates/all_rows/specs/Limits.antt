-- Rows of the limits: with status 0, each field at its smallest and at its largest value, and past each of them. Assumes nothing.
use Rattle.std.specs.Prelude.{ℕ, zero, suc, ◌+◌, ◌*◌, ◌/◌, ◌%◌, List, [], ◌∷◌, ◌++◌, map, replicate}
use Rattle.model.specs.History.{fresh_table}
use Rattle.all_rows.specs.Case.{Case, reads, counts, receives_att}

-- the two bytes of a number of 16 bits
abbrev two : ℕ → List ℕ
two n = n % 256 ∷ n / 256 ∷ []

-- ---- 3E 13 01

abbrev connection : (status handle role kind interval latency timeout accuracy : ℕ) → List ℕ
connection status handle role kind interval latency timeout accuracy =
    (0x3E ∷ 0x13 ∷ 0x01 ∷ status ∷ [])
    ++ two handle
    ++ (role ∷ kind ∷ 0x66 ∷ 0x55 ∷ 0x44 ∷ 0x33 ∷ 0x22 ∷ 0x11 ∷ [])
    ++ two interval
    ++ two latency
    ++ two timeout
    ++ (accuracy ∷ [])

-- it is read with these values
abbrev connects : (status handle role kind interval latency timeout accuracy : ℕ) → Case
connects status handle role kind interval latency timeout accuracy =
    reads (connection status handle role kind interval latency timeout accuracy) 0
    (0x3E ∷ 0x01 ∷ status ∷ handle ∷ role ∷ kind ∷ 0x66 ∷ 0x55 ∷ 0x44 ∷ 0x33 ∷ 0x22 ∷ 0x11 ∷ interval ∷ latency ∷ timeout ∷ accuracy ∷ [])

-- ---- 3E 0A 03

abbrev update : (status handle interval latency timeout : ℕ) → List ℕ
update status handle interval latency timeout =
    (0x3E ∷ 0x0A ∷ 0x03 ∷ status ∷ []) ++ two handle ++ two interval ++ two latency ++ two timeout

abbrev updates : (status handle interval latency timeout : ℕ) → Case
updates status handle interval latency timeout =
    reads (update status handle interval latency timeout) 0
    (0x3E ∷ 0x03 ∷ status ∷ handle ∷ interval ∷ latency ∷ timeout ∷ [])

-- ---- 13: n pairs of handle h, one packet each; 1D: a value of n bytes

abbrev completed : ℕ → ℕ → List ℕ
completed n h = 0x13 ∷ (1 + 4 * n) ∷ n ∷ pairs n
  where
    pairs : ℕ → List ℕ
    pairs zero = []
    pairs (suc k) = two h ++ two 1 ++ pairs k

abbrev indication : ℕ → List ℕ
indication n = 0x1D ∷ 0x03 ∷ 0x00 ∷ replicate n 0xAA

abbrev is_nine : List ℕ → Case
is_nine s = reads s 9 []

-- an indication of n bytes of value answers this number and these values
abbrev indicates : ℕ → ℕ → List ℕ → Case
indicates n number vs = receives_att (fresh_table 1 251 4) 0x40 (indication n) number vs [] (λ t. []) []

abbrev pub limit_cases : List Case
limit_cases =
    connects 0 0 0 0 6 0 10 0
    ∷ connects 0 0xEFF 1 1 3200 499 3200 7
    ∷ updates 0 0 6 0 10
    ∷ updates 0 0xEFF 3200 499 3200
    -- "Other statuses keep raw fields"
    ∷ connects 1 0xF00 2 2 5 500 9 8
    ∷ connects 1 0xFFF 2 2 3201 500 3201 8
    ∷ updates 1 0xF00 5 500 9
    ∷ updates 1 0xFFF 3201 500 3201
    ∷ counts (completed 63 0xEFF) 0 (63 ∷ [])
    ∷ counts (completed 1 0xF00) 9 []
    -- 3 to 515 bytes in all
    ∷ indicates 0 0 (0x1D ∷ 3 ∷ [])
    ∷ indicates 512 0 (0x1D ∷ 3 ∷ [])
    ∷ indicates 513 9 []
    ∷ map is_nine
    (connection 0 0xF00 0 0 6 0 10 0
    ∷ connection 0 0 2 0 6 0 10 0
    ∷ connection 0 0 0 2 6 0 10 0
    ∷ connection 0 0 0 0 5 0 10 0
    ∷ connection 0 0 0 0 3201 0 10 0
    ∷ connection 0 0 0 0 6 500 10 0
    ∷ connection 0 0 0 0 6 0 9 0
    ∷ connection 0 0 0 0 6 0 3201 0
    ∷ connection 0 0 0 0 6 0 10 8
    ∷ update 0 0xF00 6 0 10
    ∷ update 0 0 5 0 10
    ∷ update 0 0 3201 0 10
    ∷ update 0 0 6 500 10
    ∷ update 0 0 6 0 9
    ∷ update 0 0 6 0 3201
    ∷ [])
