-- The worked cases of document 02, L13, and the check that computes them. Assumes nothing.
use Rattle.std.specs.Prelude.{ℕ, ◌+◌, ◌≡◌, refl, true, List, [], ◌∷◌, ◌++◌, map, replicate}
use Rattle.slot.specs.declared.Address.{Address}
use Rattle.slot.specs.declared.LeConnRole.TheVariants.{Central, Peripheral}
use Rattle.model.specs.Find.{slots_ok, held_by, well_formed, lowest, locate}
use Rattle.model.specs.History.{no_table}
use Rattle.peer_records.specs.Below.{all_below}
use Rattle.peer_records.specs.Format.{earliest, record_at}
use Rattle.peer_records.specs.Force.{peers_below}
use Rattle.table_rows.specs.Shared.{peer, near_peers}
use Rattle.peer_rows.specs.Row.{Row, counts, accepts, refuses, all_hold}
use Rattle.peer_rows.specs.Files.{waiting, held, waiting_for, no_address, two, entry, of, file, kind_role}

-- ---- which record is in force

abbrev force : List Row
force =
    -- "the highest serial supersedes", wherever it stands
    counts (file (of 1 5 1 ∷ of 1 6 1 ∷ [])) (1 ∷ [])
    ∷ counts (file (of 1 6 1 ∷ of 1 5 1 ∷ [])) (0 ∷ [])
    ∷ counts (file (of 1 5 1 ∷ of 1 7 1 ∷ of 1 6 1 ∷ [])) (1 ∷ [])
    -- all 32 bits of it, the lowest byte first
    ∷ counts (file (of 1 0x01000000 1 ∷ of 1 0x00FFFFFF 1 ∷ [])) (0 ∷ [])
    ∷ counts (file (of 1 0x00010000 1 ∷ of 1 0x0000FFFF 1 ∷ [])) (0 ∷ [])
    ∷ counts (file (of 1 0x00000100 1 ∷ of 1 0x000000FF 1 ∷ [])) (0 ∷ [])
    ∷ counts (file (of 1 0xFFFFFFFF 1 ∷ of 1 0 1 ∷ [])) (0 ∷ [])
    -- "of equal serials the later in the file"
    ∷ counts (file (of 1 5 1 ∷ of 1 5 1 ∷ of 1 5 1 ∷ [])) (2 ∷ [])
    -- each peer has its own; the role makes no other peer, the kind does
    ∷ counts (file (of 1 5 1 ∷ of 2 9 1 ∷ of 1 6 1 ∷ of 2 8 1 ∷ [])) (1 ∷ 2 ∷ [])
    ∷ counts (file (of 1 5 0 ∷ of 1 6 1 ∷ [])) (1 ∷ [])
    ∷ counts (file (entry no_address 5 0 ∷ kind_role 14 1 0 ∷ [])) (0 ∷ 1 ∷ [])
    -- "A length other than 14 is a record of a newer form and passed over": it is not in force, and supersedes nothing
    ∷ counts (file (of 1 5 1 ∷ (of 1 9 1 ++ 0 ∷ []) ∷ of 1 4 1 ∷ [])) (0 ∷ [])
    ∷ counts (file (kind_role 13 0 0 ∷ [] ∷ kind_role 270 0 0 ∷ [])) []
    ∷ counts (file []) []
    ∷ []

-- ---- the poll

abbrev search : List Row
search =
    -- "takes its peers from the records in force for its role": the lowest slot of the role, whatever the order in the file
    accepts waiting Peripheral (file (of 2 5 1 ∷ of 1 5 1 ∷ [])) 0
    ∷ accepts waiting Peripheral (file (of 2 5 1 ∷ [])) 1
    ∷ accepts waiting Central (file (of 2 5 1 ∷ of 1 5 0 ∷ [])) 2
    -- decided for each peer over both roles, then by role: with serial 5 for a Central and 6 for a Peripheral, no Central accepts
    ∷ refuses waiting Central (file (of 1 5 0 ∷ of 1 6 1 ∷ [])) 5
    ∷ accepts waiting Peripheral (file (of 1 5 0 ∷ of 1 6 1 ∷ [])) 0
    ∷ refuses waiting Peripheral (file (of 1 6 0 ∷ of 1 5 1 ∷ [])) 5
    ∷ accepts waiting Central (file (of 1 6 0 ∷ of 1 5 1 ∷ [])) 2
    ∷ refuses waiting Central (file (of 1 5 0 ∷ of 1 5 1 ∷ [])) 5
    ∷ refuses waiting Peripheral (file (of 1 5 1 ∷ of 1 5 0 ∷ [])) 5
    ∷ accepts waiting Central (file (of 1 5 1 ∷ of 1 5 0 ∷ [])) 2
    -- "with none in force nothing is accepted and the poll is Pending": none for this role; none at all; of this role, but no
    -- slot's; a record of a newer form is not one of the address that is all 0
    ∷ refuses waiting Peripheral (file (of 1 5 0 ∷ of 2 5 0 ∷ [])) 5
    ∷ refuses waiting Peripheral (file []) 5
    ∷ refuses waiting Central (file []) 5
    ∷ refuses waiting Peripheral (file (of 3 5 1 ∷ [])) 5
    ∷ refuses waiting Peripheral (file ((of 1 5 1 ++ 0 ∷ []) ∷ [])) 5
    ∷ refuses (waiting_for no_address) Central (file (kind_role 15 0 0 ∷ [])) 5
    ∷ refuses (waiting_for no_address) Central (file []) 5
    ∷ accepts (waiting_for no_address) Central (file (kind_role 14 0 0 ∷ [])) 0
    -- "References not 0: 6, and the search stops"; a slot of another peer does not stop it
    ∷ refuses held Peripheral (file (of 1 5 1 ∷ of 2 5 1 ∷ [])) 6
    ∷ accepts held Peripheral (file (of 2 5 1 ∷ [])) 1
    -- the same peer: kind and six bytes
    ∷ accepts (waiting_for (peer 1)) Central (file (of 1 5 0 ∷ [])) 0
    ∷ map (λ (a : Address). refuses (waiting_for a) Central (file (of 1 5 0 ∷ [])) 5) near_peers

-- ---- 22 and 23

-- one record of peer 1 for a Peripheral: its pair, the bytes between the pair and the record, and those after the record
abbrev one : (offset length : ℕ) → (before past : List ℕ) → List ℕ
one offset length before past = two 1 ++ two offset ++ two length ++ before ++ of 1 5 1 ++ past

-- two records of peers 1 and 2, the second at this offset with this length
abbrev second : (offset length : ℕ) → List ℕ
second offset length = two 2 ++ two 10 ++ two 14 ++ two offset ++ two length ++ of 1 5 0 ++ of 2 5 1

abbrev refused : List Row
refused =
    -- "a count .. that reaches outside the file": no count; no pairs, or not all of one; all 16 bits of the count
    refuses waiting Peripheral [] 22
    ∷ refuses waiting Peripheral (0 ∷ []) 22
    ∷ refuses waiting Peripheral (two 1) 22
    ∷ refuses waiting Peripheral (two 1 ++ two 6 ++ 0 ∷ []) 22
    ∷ refuses waiting Peripheral (two 256 ++ replicate 40 0) 22
    -- a pair "that reaches outside the file": to the last byte; one past it; all 16 bits of offset and length
    ∷ accepts waiting Peripheral (one 6 14 [] []) 0
    ∷ refuses waiting Peripheral (one 7 14 [] []) 22
    ∷ refuses waiting Peripheral (one 6 15 [] []) 22
    ∷ refuses waiting Peripheral (two 1 ++ two 6 ++ two 14 ++ replicate 13 0) 22
    ∷ refuses waiting Peripheral (one (6 + 256) 14 [] []) 22
    ∷ refuses waiting Peripheral (one 6 (14 + 256) [] []) 22
    -- bytes between the pairs and a record, and past the last
    ∷ accepts waiting Peripheral (one 9 14 (1 ∷ 2 ∷ 3 ∷ []) []) 0
    ∷ accepts waiting Peripheral (one 256 14 (replicate 250 0xFF) []) 0
    ∷ accepts waiting Peripheral (one 6 14 [] (1 ∷ 2 ∷ 3 ∷ [])) 0
    -- "a record starting before the end of the one ahead (the first: of the pairs)": at that end; one below
    ∷ refuses waiting Peripheral (one 5 14 [] []) 22
    ∷ refuses waiting Peripheral (one 0 14 [] []) 22
    ∷ accepts waiting Peripheral (second 24 14) 1
    ∷ refuses waiting Peripheral (second 23 14) 22
    ∷ refuses waiting Peripheral (second 10 14) 22
    ∷ refuses waiting Peripheral (second 23 0) 22
    ∷ refuses waiting Peripheral (second 25 14) 22
    -- behind the one ahead, not the first; in falling order; behind one of a newer form; the first of a newer form, within the pairs
    ∷ refuses waiting Peripheral (two 3 ++ two 14 ++ two 14 ++ two 28 ++ two 14 ++ two 41 ++ two 14 ++ of 1 5 1 ++ of 2 5 1 ++ of 3 5 1) 22
    ∷ refuses waiting Peripheral (two 2 ++ two 24 ++ two 14 ++ two 10 ++ two 14 ++ of 1 5 1 ++ of 2 5 1) 22
    ∷ refuses waiting Peripheral (two 2 ++ two 10 ++ two 15 ++ two 24 ++ two 14 ++ of 1 5 1 ++ of 2 5 1) 22
    ∷ refuses waiting Peripheral (one 5 15 [] []) 22
    -- a record of a newer form is not looked at, but its pair is: one of no bytes, at the end of the file and past it
    ∷ refuses waiting Peripheral (second 38 0) 5
    ∷ refuses waiting Peripheral (second 39 0) 22
    -- "23 for a role or kind above 1 in a record of 14 bytes"
    ∷ refuses waiting Peripheral (file (of 1 5 1 ∷ kind_role 14 2 0 ∷ [])) 23
    ∷ refuses waiting Peripheral (file (of 1 5 1 ∷ kind_role 14 0 2 ∷ [])) 23
    ∷ refuses waiting Peripheral (file (kind_role 14 0 255 ∷ of 1 5 1 ∷ [])) 23
    ∷ refuses waiting Peripheral (file (kind_role 14 255 0 ∷ of 1 5 1 ∷ [])) 23
    ∷ refuses waiting Peripheral (file (of 1 5 1 ∷ of 2 5 1 ∷ kind_role 14 2 0 ∷ [])) 23
    -- .. also in one that is superseded
    ∷ refuses waiting Peripheral (file (of 1 5 2 ∷ of 1 6 1 ∷ [])) 23
    ∷ accepts waiting Peripheral (file (of 1 5 1 ∷ kind_role 14 1 1 ∷ [])) 0
    ∷ accepts waiting Peripheral (file (of 1 5 1 ∷ kind_role 13 2 2 ∷ [])) 0
    ∷ accepts waiting Peripheral (file (of 1 5 1 ∷ kind_role 15 2 2 ∷ [])) 0
    -- "then 23": a bad kind in the first record, and a second one that starts too early
    ∷ refuses waiting Peripheral (two 2 ++ two 10 ++ two 14 ++ two 23 ++ two 14 ++ kind_role 14 2 2 ++ of 1 5 1) 22
    -- "both before the slot search": also where no slot would be found, and where the slot found has references; 8 before both
    ∷ refuses (waiting_for no_address) Peripheral [] 22
    ∷ refuses held Peripheral (one 7 14 [] []) 22
    ∷ refuses held Peripheral (file (of 1 5 1 ∷ kind_role 14 2 0 ∷ [])) 23
    ∷ refuses no_table Peripheral [] 8
    ∷ refuses no_table Peripheral (file (kind_role 14 2 2 ∷ [])) 8
    ∷ refuses no_table Peripheral (file (of 1 5 1 ∷ [])) 8
    ∷ []

abbrev pub rows : List Row
rows = force ++ search ++ refused

pub peer_rows_hold : all_hold rows ≡ true
unfolding locate well_formed slots_ok held_by lowest all_below earliest record_at peers_below
peer_rows_hold = refl
