-- The text of the waiters that calls wake, as docs/HISTORY.md has it. Assumes nothing.
use Rattle.std.specs.Prelude.{ℕ, Bool, true, false, cond, List, [], ◌∷◌, ◌++◌, get_or}
use Rattle.woken_set.specs.declared.LinkWoken.{LinkWoken}
use Rattle.woken_set.specs.declared.WokenSet.{WokenSet}
use Rattle.woken_set.specs.WokenSet.{none}
use Rattle.text.specs.Text.{each}
use Rattle.text.specs.Ascii.{ascii}
use Rattle.number_text.specs.Number.{behind_text}

-- a name, where the waiter is woken
abbrev pub name_if : Bool → List ℕ → List (List ℕ)
name_if b name = cond b (name ∷ []) []

-- `NAME@I`: a waiter of the link at i
abbrev pub at_link : ℕ → List ℕ → List ℕ
at_link i name = name ++ behind_text 64 i

-- within a slot
unfoldable pub link_names : LinkWoken → ℕ → List (List ℕ)
link_names l i =
    name_if l.link_credit (at_link i (ascii "link_credit"))
    ++ (name_if l.acl_send_lock (at_link i (ascii "acl_send_lock"))
    ++ (name_if l.indication_slot (at_link i (ascii "indication_slot"))
    ++ name_if l.indication_cfm (at_link i (ascii "indication_cfm"))))

abbrev pub names_at : WokenSet → ℕ → List (List ℕ)
names_at w i = link_names (get_or w.links i none) i

-- by slot index
unfoldable pub links_names : WokenSet → List (List ℕ)
links_names w = each (names_at w) 16 0

-- the three of the table, then those of the slots
abbrev pub woken_names : WokenSet → List (List ℕ)
woken_names w =
    name_if w.central (ascii "central")
    ++ (name_if w.peripheral (ascii "peripheral")
    ++ (name_if w.disconnect (ascii "disconnect")
    ++ links_names w))

-- a comma, but for the first name
abbrev pub comma_text : Bool → List ℕ
comma_text first = cond first [] (ascii ",")

-- names with commas between, where the first of them is the first of all or not
unfoldable pub listed : Bool → List (List ℕ) → List ℕ
listed first [] = []
listed first (name ∷ names) = comma_text first ++ (name ++ listed false names)

-- `-` for none
unfoldable pub list_text : List (List ℕ) → List ℕ
list_text [] = ascii "-"
list_text (name ∷ names) = listed true (name ∷ names)

abbrev pub woken_text : WokenSet → List ℕ
woken_text w = list_text (woken_names w)

-- whether the name after these is the first of all
unfoldable pub first_after : Bool → List (List ℕ) → Bool
first_after first [] = first
first_after first (name ∷ names) = false
