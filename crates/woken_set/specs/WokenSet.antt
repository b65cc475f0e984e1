-- A set of waiters. Assumes nothing.
use Rattle.std.specs.Prelude.{ℕ, zero, suc, ◌+◌, ◌-◌, ◌≤◌, ◌<◌, ◌≡◌, Bool, true, false, cond, ◌||◌, ltb, get_or, set, replicate}
use Rattle.std.proofs.Common.{arith}
use Rattle.slot.specs.declared.Woken.{Woken}
use Rattle.slot.specs.declared.Woken.TheVariants as woken
use Rattle.woken_set.specs.declared.LinkWoken.{LinkWoken}
use Rattle.woken_set.specs.declared.WokenSet.{WokenSet}

-- the four of a link: credit, lock, indication slot, confirmation
abbrev pub link_of : Bool → Bool → Bool → Bool → LinkWoken
link_of a b c d =
    record { link_credit = a; acl_send_lock = b; indication_slot = c; indication_cfm = d }

abbrev pub none : LinkWoken
none = link_of false false false false

abbrev pub all_of : LinkWoken
all_of = link_of true true true true

abbrev pub nobody : WokenSet
nobody = record { central = false; peripheral = false; disconnect = false; links = replicate 16 none }

abbrev pub either : LinkWoken → LinkWoken → LinkWoken
either a b =
    link_of (a.link_credit || b.link_credit) (a.acl_send_lock || b.acl_send_lock)
    (a.indication_slot || b.indication_slot) (a.indication_cfm || b.indication_cfm)

-- with these of the link at i
unfoldable pub added_at : WokenSet → ℕ → LinkWoken → WokenSet
added_at s i more =
    cond (ltb i 16)
    (record {
      central = s.central;
      peripheral = s.peripheral;
      disconnect = s.disconnect;
      links = set s.links i (either (get_or s.links i none) more);
    })
    s

-- with those that a call wakes
abbrev pub added : WokenSet → Woken → WokenSet
added s woken.Nobody = s
added s woken.Central = record { central = true; peripheral = s.peripheral; disconnect = s.disconnect; links = s.links }
added s woken.Peripheral = record { central = s.central; peripheral = true; disconnect = s.disconnect; links = s.links }
added s woken.Disconnect = record { central = s.central; peripheral = s.peripheral; disconnect = true; links = s.links }
added s (woken.LinkCredit i) = added_at s i (link_of true false false false)
added s (woken.AclSendLock i) = added_at s i (link_of false true false false)
added s (woken.IndicationSlot i) = added_at s i (link_of false false true false)
added s (woken.IndicationCfm i) = added_at s i (link_of false false false true)
added s (woken.Link i) = added_at s i all_of

-- with those of another set: the links from i on, n of them
unfoldable pub joined_from : WokenSet → ℕ → ℕ → WokenSet → WokenSet
joined_from more zero i s = s
joined_from more (suc n) i s = joined_from more n (i + 1) (added_at s i (get_or more.links i none))

abbrev pub joined : WokenSet → WokenSet → WokenSet
joined s more =
    joined_from more 16 0
    (record {
      central = s.central || more.central;
      peripheral = s.peripheral || more.peripheral;
      disconnect = s.disconnect || more.disconnect;
      links = s.links;
    })

pub join_next : (more s next : WokenSet) (i : ℕ) → i < 16 → next ≡ added_at s i (get_or more.links i none)
    → joined_from more (16 - i) i s ≡ joined_from more (16 - (i + 1)) (i + 1) next
unfolding joined_from
join_next more s next i h e =
    let p : 16 - i ≡ suc (16 - (i + 1)) = omega arith in rw (p, e)

pub join_end : (more s : WokenSet) (i : ℕ) → 16 ≤ i → joined_from more (16 - i) i s ≡ s
unfolding joined_from
join_end more s i h = let p : 16 - i ≡ 0 = omega arith in rw p
