-- Names put one behind the other: what the proofs of `woken_text` go by. Assumes nothing.
use Prim.Native.Nat.{ℕ}
use Rattle.std.specs.Prelude.{◌≡◌, refl, Bool, true, false, List, [], ◌∷◌, ◌++◌}
use Rattle.std.proofs.Math.Path.{sym}
use Rattle.std.proofs.Common.{true≢false, append_assoc, append-nil}
use Rattle.text.specs.Ascii.{ascii}
use Rattle.woken_text.specs.Woken.{comma_text, listed, list_text, first_after}

pub listed_append : (f : Bool) (ns ms : List (List ℕ)) → listed f (ns ++ ms) ≡ listed f ns ++ listed (first_after f ns) ms
unfolding listed first_after
listed_append f [] ms = refl
listed_append f (n ∷ []) ms = rw (append_assoc (comma_text f) (n ++ []) (listed false ms), append_assoc n [] (listed false ms))
listed_append f (n ∷ m ∷ ns) ms =
    rw (
      listed_append false (m ∷ ns) ms,
      append_assoc (comma_text f) (n ++ listed false (m ∷ ns)) (listed false ms),
      append_assoc n (listed false (m ∷ ns)) (listed false ms),
    )

pub after_append : (f : Bool) (ns ms : List (List ℕ)) → first_after f (ns ++ ms) ≡ first_after (first_after f ns) ms
unfolding first_after
after_append f [] ms = refl
after_append f (n ∷ ns) [] = refl
after_append f (n ∷ ns) (m ∷ ms) = refl

pub listed_none : (f : Bool) → listed f [] ≡ []
unfolding listed
listed_none f = refl

pub listed_one : (f : Bool) (n : List ℕ) → listed f (n ∷ []) ≡ comma_text f ++ n
unfolding listed
listed_one f n = rw (append-nil n)

pub after_none : (f : Bool) → first_after f [] ≡ f
unfolding first_after
after_none f = refl

pub after_one : (f : Bool) (n : List ℕ) → first_after f (n ∷ []) ≡ false
unfolding first_after
after_one f n = refl

-- names put one behind the other
pub ruleset names = (listed_append, after_append, listed_none, listed_one, after_none, after_one)

-- ---- `-` for none

pub none_text : (ns : List (List ℕ)) → first_after true ns ≡ true → list_text ns ≡ ascii "-"
unfolding list_text first_after
none_text [] e = refl
none_text (n ∷ ns) e = absurd (true≢false (sym e))

pub none_put : (ns : List (List ℕ)) → first_after true ns ≡ true → listed true ns ≡ []
unfolding listed first_after
none_put [] e = refl
none_put (n ∷ ns) e = absurd (true≢false (sym e))

pub some_text : (ns : List (List ℕ)) → first_after true ns ≡ false → list_text ns ≡ listed true ns
unfolding list_text first_after
some_text [] e = absurd (true≢false e)
some_text (n ∷ ns) e = refl

pub ruleset whole = (none_text, none_put, some_text)
