-- `joined` is the union, waiter by waiter; so the waiters of messages together are those that their calls wake. Assumes nothing.
use Prim.Native.Nat.{ℕ, zero, suc, ◌+◌, ◌<◌, ◌≤◌}
use Rattle.std.specs.Prelude.{◌≡◌, ◌≢◌, Bool, cond, ◌||◌, List, [], ◌∷◌, ◌++◌, ltb, length, get_or, set}
use Rattle.std.proofs.Math.Path.{refl, ap}
use Rattle.std.proofs.Common.{sym, ◌∙◌, arith, length-set, get_or-set_same, get_or-set_other, ext_get_or}
use Rattle.std.proofs.Math.Bool.{true, false, or-true, or-false, or_assoc}
use borrow.Author.Tests.{lt-ltb, ltb-true, ltb-false, eqb-true, eqb-false}
use Rattle.std.proofs.Math.Dec.{eqb}
use Rattle.std.proofs.lemmas.List.{get_or-replicate}
use Rattle.slot.specs.declared.Woken.{Woken}
use Rattle.slot.specs.declared.Woken.TheVariants as woken
use Rattle.model.specs.Answer.{Outcome}
use Rattle.woken_set.specs.declared.LinkWoken.{LinkWoken}
use Rattle.woken_set.specs.declared.WokenSet.{WokenSet}
use Rattle.woken_set.specs.WokenSet.{link_of, none, all_of, nobody, either, added_at, added, joined_from, joined}
use Rattle.messages.specs.Received.{woken_by}

abbrev pub link_at : WokenSet → ℕ → LinkWoken
link_at s j = get_or s.links j none

added_other : (s : WokenSet) (i j : ℕ) (m : LinkWoken) → j ≢ i → link_at (added_at s i m) j ≡ link_at s j
unfolding added_at
added_other s i j m h = go (ltb i 16)
  where
    go : (b : Bool)
        → link_at
        (cond b
        (record { central = s.central; peripheral = s.peripheral; disconnect = s.disconnect; links = set s.links i (either (link_at s i) m) })
        s) j ≡ link_at s j
    go true = get_or-set_other s.links i j (either (link_at s i) m) none h
    go false = refl

added_here : (s : WokenSet) (i : ℕ) (m : LinkWoken) → i < 16 → length s.links ≡ 16 → link_at (added_at s i m) i ≡ either (link_at s i) m
unfolding added_at
added_here s i m h k = rw (lt-ltb i 16 h) (get_or-set_same s.links i (either (link_at s i) m) none (omega arith))

added_length : (s : WokenSet) (i : ℕ) (m : LinkWoken) → length (added_at s i m).links ≡ length s.links
unfolding added_at
added_length s i m = go (ltb i 16)
  where
    go : (b : Bool)
        → length
        (cond b
        (record { central = s.central; peripheral = s.peripheral; disconnect = s.disconnect; links = set s.links i (either (link_at s i) m) })
        s).links ≡ length s.links
    go true = length-set s.links i (either (link_at s i) m)
    go false = refl

above : (i j : ℕ) → i ≤ j → (j ≡ i → ⊥) → i + 1 ≤ j
above i j h p = go (ltb i j) refl
  where
    go : (b : Bool) → ltb i j ≡ b → i + 1 ≤ j
    go true e = omega (arith, ltb-true i j e)
    go false e = absurd (p (omega (arith, ltb-false i j e)))

module _ (more : WokenSet) where
  join_other : (n i j : ℕ) (s : WokenSet) → j < i → link_at (joined_from more n i s) j ≡ link_at s j
  unfolding joined_from
  join_other zero i j s h = refl
  join_other (suc n) i j s h =
      join_other n (i + 1) j (added_at s i (link_at more i)) (omega arith) ∙ added_other s i j (link_at more i) (λ e. omega arith)

  join_here : (n i j : ℕ) (s : WokenSet) → i ≤ j → j < i + n → i + n ≤ 16 → length s.links ≡ 16
      → link_at (joined_from more n i s) j ≡ either (link_at s j) (link_at more j)
  unfolding joined_from
  join_here zero i j s h k l e = absurd (omega arith)
  join_here (suc n) i j s h k l e =
      go (eqb j i) refl
      (λ p. join_here n (i + 1) j (added_at s i (link_at more i)) (above i j h p) (omega arith) (omega arith) (added_length s i (link_at more i) ∙ e))
    where
      go : (b : Bool) → eqb j i ≡ b
          → (j ≢ i
          → link_at (joined_from more n (i + 1) (added_at s i (link_at more i))) j ≡ either (link_at (added_at s i (link_at more i)) j) (link_at more j))
          → link_at (joined_from more n (i + 1) (added_at s i (link_at more i))) j ≡ either (link_at s j) (link_at more j)
      go true q f =
          let p = eqb-true j i q in
          join_other n (i + 1) j (added_at s i (link_at more i)) (omega arith)
          ∙ ap (link_at (added_at s i (link_at more i))) p
          ∙ added_here s i (link_at more i) (omega arith) e
          ∙ ap (λ (x : ℕ). either (link_at s x) (link_at more x)) (sym p)
      go false q f =
          let p = eqb-false j i q in
          f p ∙ ap (λ (x : LinkWoken). either x (link_at more j)) (added_other s i j (link_at more i) p)

-- of every link its four waiters
pub joined_links : (s more : WokenSet) (j : ℕ) → j < 16 → length s.links ≡ 16 → link_at (joined s more) j ≡ either (link_at s j) (link_at more j)
joined_links s more j h e = join_here more 16 0 j _ (omega arith) (omega arith) (omega arith) e

-- and the three that are no link's
abbrev pub three : WokenSet → Bool × Bool × Bool
three s = (s.central, s.peripheral, s.disconnect)

added_three : (s : WokenSet) (i : ℕ) (m : LinkWoken) → three (added_at s i m) ≡ three s
unfolding added_at
added_three s i m = go (ltb i 16)
  where
    go : (b : Bool)
        → three
        (cond b
        (record { central = s.central; peripheral = s.peripheral; disconnect = s.disconnect; links = set s.links i (either (link_at s i) m) })
        s) ≡ three s
    go true = refl
    go false = refl

join_three : (more : WokenSet) (n i : ℕ) (s : WokenSet) → three (joined_from more n i s) ≡ three s
unfolding joined_from
join_three more zero i s = refl
join_three more (suc n) i s = join_three more n (i + 1) (added_at s i (link_at more i)) ∙ added_three s i (link_at more i)

pub joined_three : (s more : WokenSet)
    → three (joined s more) ≡ (s.central || more.central, s.peripheral || more.peripheral, s.disconnect || more.disconnect)
joined_three s more = join_three more 16 0 _

join_length : (more : WokenSet) (n i : ℕ) (s : WokenSet) → length (joined_from more n i s).links ≡ length s.links
unfolding joined_from
join_length more zero i s = refl
join_length more (suc n) i s = join_length more n (i + 1) (added_at s i (link_at more i)) ∙ added_length s i (link_at more i)

-- ---- sets of sixteen links

abbrev pub Sixteen : WokenSet → Type 0
Sixteen s = length s.links ≡ 16

abbrev pub both : Bool × Bool × Bool → Bool × Bool × Bool → Bool × Bool × Bool
both (a, b, c) (x, y, z) = (a || x, b || y, c || z)

both_none : (s : WokenSet) → three s ≡ both (three s) (three nobody)
both_none s k = (sym (or-false s.central) k, sym (or-false s.peripheral) k, sym (or-false s.disconnect) k)

either_none : (l : LinkWoken) → either l none ≡ l
either_none l k =
    link_of (or-false l.link_credit k) (or-false l.acl_send_lock k) (or-false l.indication_slot k) (or-false l.indication_cfm k)

either_assoc : (a b c : LinkWoken) → either (either a b) c ≡ either a (either b c)
either_assoc a b c k =
    link_of (or_assoc a.link_credit b.link_credit c.link_credit k)
    (or_assoc a.acl_send_lock b.acl_send_lock c.acl_send_lock k)
    (or_assoc a.indication_slot b.indication_slot c.indication_slot k)
    (or_assoc a.indication_cfm b.indication_cfm c.indication_cfm k)

both_assoc : (a b c : Bool × Bool × Bool) → both (both a b) c ≡ both a (both b c)
both_assoc (a, b, c) (d, e, f) (x, y, z) = λ k. (or_assoc a d x k, or_assoc b e y k, or_assoc c f z k)

nobody_at : (j : ℕ) → j < 16 → link_at nobody j ≡ none
nobody_at j h = get_or-replicate 16 j none none h

-- nobody more
more_none : (s : WokenSet) (j : ℕ) → j < 16 → link_at s j ≡ either (link_at s j) (link_at nobody j)
more_none s j h = rw (nobody_at j h) (sym (either_none (link_at s j)))

-- ---- one call more: what it wakes joins the set, link by link

at_any : (s : WokenSet) (i : ℕ) (m : LinkWoken) (j : ℕ) → Sixteen s → j < 16
    → link_at (added_at s i m) j ≡ either (link_at s j) (link_at (added_at nobody i m) j)
at_any s i m j e h = go (eqb j i) refl
  where
    go : (b : Bool) → eqb j i ≡ b → link_at (added_at s i m) j ≡ either (link_at s j) (link_at (added_at nobody i m) j)
    go true q =
        let p = eqb-true j i q in
        rw p
        (added_here s i m (omega arith) e
        ∙ ap (either (link_at s i)) (sym (added_here nobody i m (omega arith) refl ∙ rw (nobody_at i (omega arith)))))
    go false q =
        let p = eqb-false j i q in
        added_other s i j m p ∙ more_none s j h ∙ ap (either (link_at s j)) (sym (added_other nobody i j m p))

abbrev OneMore : WokenSet → Woken → ℕ → Type 0
OneMore s w j = link_at (added s w) j ≡ either (link_at s j) (link_at (added nobody w) j)

one_more : (s : WokenSet) (w : Woken) (j : ℕ) → Sixteen s → j < 16 → OneMore s w j
one_more s woken.Nobody j e h = more_none s j h
one_more s woken.Central j e h = more_none s j h
one_more s woken.Peripheral j e h = more_none s j h
one_more s woken.Disconnect j e h = more_none s j h
one_more s (woken.LinkCredit i) j e h = at_any s i (link_of true false false false) j e h
one_more s (woken.AclSendLock i) j e h = at_any s i (link_of false true false false) j e h
one_more s (woken.IndicationSlot i) j e h = at_any s i (link_of false false true false) j e h
one_more s (woken.IndicationCfm i) j e h = at_any s i (link_of false false false true) j e h
one_more s (woken.Link i) j e h = at_any s i all_of j e h

three_any : (s : WokenSet) (i : ℕ) (m : LinkWoken) → three (added_at s i m) ≡ both (three s) (three (added_at nobody i m))
three_any s i m = added_three s i m ∙ both_none s ∙ ap (both (three s)) (sym (added_three nobody i m))

one_more_three : (s : WokenSet) (w : Woken) → three (added s w) ≡ both (three s) (three (added nobody w))
one_more_three s woken.Nobody = both_none s
one_more_three s woken.Central = λ k. (sym (or-true s.central) k, sym (or-false s.peripheral) k, sym (or-false s.disconnect) k)
one_more_three s woken.Peripheral = λ k. (sym (or-false s.central) k, sym (or-true s.peripheral) k, sym (or-false s.disconnect) k)
one_more_three s woken.Disconnect = λ k. (sym (or-false s.central) k, sym (or-false s.peripheral) k, sym (or-true s.disconnect) k)
one_more_three s (woken.LinkCredit i) = three_any s i (link_of true false false false)
one_more_three s (woken.AclSendLock i) = three_any s i (link_of false true false false)
one_more_three s (woken.IndicationSlot i) = three_any s i (link_of false false true false)
one_more_three s (woken.IndicationCfm i) = three_any s i (link_of false false false true)
one_more_three s (woken.Link i) = three_any s i all_of

one_more_length : (s : WokenSet) (w : Woken) → length (added s w).links ≡ length s.links
one_more_length s woken.Nobody = refl
one_more_length s woken.Central = refl
one_more_length s woken.Peripheral = refl
one_more_length s woken.Disconnect = refl
one_more_length s (woken.LinkCredit i) = added_length s i (link_of true false false false)
one_more_length s (woken.AclSendLock i) = added_length s i (link_of false true false false)
one_more_length s (woken.IndicationSlot i) = added_length s i (link_of false false true false)
one_more_length s (woken.IndicationCfm i) = added_length s i (link_of false false false true)
one_more_length s (woken.Link i) = added_length s i all_of

-- ---- several calls

pub woken_length : (os : List Outcome) (s : WokenSet) → length (woken_by os s).links ≡ length s.links
woken_length [] s = refl
woken_length (o ∷ os) s = woken_length os (added s o.woken) ∙ one_more_length s o.woken

woken_links : (os : List Outcome) (s : WokenSet) (j : ℕ) → Sixteen s → j < 16
    → link_at (woken_by os s) j ≡ either (link_at s j) (link_at (woken_by os nobody) j)
woken_links [] s j e h = more_none s j h
woken_links (o ∷ os) s j e h =
    let w = o.woken in
    woken_links os (added s w) j (one_more_length s w ∙ e) h
    ∙ ap (λ (l : LinkWoken). either l (link_at (woken_by os nobody) j)) (one_more s w j e h)
    ∙ either_assoc (link_at s j) (link_at (added nobody w) j) (link_at (woken_by os nobody) j)
    ∙ ap (either (link_at s j)) (sym (woken_links os (added nobody w) j (one_more_length nobody w) h))

woken_three : (os : List Outcome) (s : WokenSet) → three (woken_by os s) ≡ both (three s) (three (woken_by os nobody))
woken_three [] s = both_none s
woken_three (o ∷ os) s =
    let w = o.woken in
    woken_three os (added s w)
    ∙ ap (λ (x : Bool × Bool × Bool). both x (three (woken_by os nobody))) (one_more_three s w)
    ∙ both_assoc (three s) (three (added nobody w)) (three (woken_by os nobody))
    ∙ ap (both (three s)) (sym (woken_three os (added nobody w)))

-- sets with the same waiters are the same
same_set : (s u : WokenSet) → Sixteen s → Sixteen u → three s ≡ three u → ((j : ℕ) → j < 16 → link_at s j ≡ link_at u j) → s ≡ u
same_set s u e f p q =
    let links = ext_get_or none s.links u.links (e ∙ sym f) (λ j h. q j (omega arith)) in
    λ k. record { central = (p k).0; peripheral = (p k).1; disconnect = (p k).2; links = links k }

-- a set joined with those whom calls wake is what they make of that set
pub joined_woken : (os : List Outcome) (s : WokenSet) → Sixteen s → joined s (woken_by os nobody) ≡ woken_by os s
joined_woken os s e =
    same_set (joined s (woken_by os nobody)) (woken_by os s) (join_length (woken_by os nobody) 16 0 _ ∙ e) (woken_length os s ∙ e)
    (joined_three s (woken_by os nobody) ∙ sym (woken_three os s))
    (λ j h. joined_links s (woken_by os nobody) j h e ∙ sym (woken_links os s j e h))
