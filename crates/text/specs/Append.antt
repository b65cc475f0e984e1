-- A text put behind another is one text put: what a function of several puts goes by, and so its attribute. Assumes nothing.
use Rattle.std.specs.Prelude.{ℕ, suc, ◌+◌, ◌-◌, ◌≤◌, ◌<◌, ◌≡◌, refl, List, [], ◌∷◌, ◌++◌, length, set}
use Rattle.std.proofs.Common.{arith, lt-ltb}
use Rattle.text.specs.Text.{put_at, put_next, put_all, put_end, each}
use Rattle.text.specs.Bytes.{full}

pub all_append : (o : List ℕ) (a : ℕ) (s t : List ℕ) → put_all o a (s ++ t) ≡ put_all (put_all o a s) (put_end o a s) t
unfolding put_all put_end
all_append o a [] t = refl
all_append o a (b ∷ s) t = all_append (put_at o a b) (put_next o a) s t

pub end_append : (o : List ℕ) (a : ℕ) (s t : List ℕ) → put_end o a (s ++ t) ≡ put_end (put_all o a s) (put_end o a s) t
unfolding put_all put_end
end_append o a [] t = refl
end_append o a (b ∷ s) t = end_append (put_at o a b) (put_next o a) s t

pub all_more : (o : List ℕ) (a b : ℕ) (s : List ℕ) → put_all o a (b ∷ s) ≡ put_all (put_at o a b) (put_next o a) s
unfolding put_all
all_more o a b s = refl

pub end_more : (o : List ℕ) (a b : ℕ) (s : List ℕ) → put_end o a (b ∷ s) ≡ put_end (put_at o a b) (put_next o a) s
unfolding put_end
end_more o a b s = refl

pub all_none : (o : List ℕ) (a : ℕ) → put_all o a [] ≡ o
unfolding put_all
all_none o a = refl

pub end_none : (o : List ℕ) (a : ℕ) → put_end o a [] ≡ a
unfolding put_end
end_none o a = refl

-- a text of several puts, split into them: for the attribute of a function that puts one part behind the other
pub ruleset puts = (all_append, end_append, all_more, end_more, all_none, end_none)

-- a byte finds room
pub room_all : (o : List ℕ) (a b : ℕ) (s : List ℕ) → a < length o → put_all o a (b ∷ s) ≡ put_all (set o a b) (a + 1) s
unfolding put_all
room_all o a b s h = simp (lt-ltb a (length o) h)

pub room_end : (o : List ℕ) (a b : ℕ) (s : List ℕ) → a < length o → put_end o a (b ∷ s) ≡ put_end (set o a b) (a + 1) s
unfolding put_end
room_end o a b s h = simp (lt-ltb a (length o) h)

-- nothing finds room
pub full_all : (o : List ℕ) (a : ℕ) (s : List ℕ) → length o ≤ a → put_all o a s ≡ o
full_all o a s h = (full o a s h).0

pub full_end : (o : List ℕ) (a : ℕ) (s : List ℕ) → length o ≤ a → put_end o a s ≡ a
full_end o a s h = (full o a s h).1

pub ruleset no_room = (full_all, full_end)

-- a place more of n, and none
pub each_next : {A : Type 0} (f : ℕ → List A) (n i : ℕ) → i < n → each f (n - i) i ≡ f i ++ each f (n - (i + 1)) (i + 1)
unfolding each
each_next f n i h = let e : n - i ≡ suc (n - (i + 1)) = omega arith in rw e

pub each_none : {A : Type 0} (f : ℕ → List A) (n i : ℕ) → n ≤ i → each f (n - i) i ≡ []
unfolding each
each_none f n i h = let e : n - i ≡ 0 = omega arith in rw e

pub ruleset places = (each_next, each_none)
