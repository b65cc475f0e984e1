-- What the code's proofs cite. Assumes nothing.
use Rattle.std.specs.Prelude.{ℕ, ◌+◌, ◌-◌, ◌≤◌, ◌^◌, ◌≡◌, Bool, true, false, cond, Result, Ok, Err, List, eqb}
use Rattle.std.proofs.Common.{sym, ap, ◌∙◌, arith}
use Rattle.slot.specs.declared.ConnectionManager.{ConnectionManager}
use Rattle.model.specs.Answer.{Refusal, number_of}
use Rattle.model.specs.Find.{well_formed}
use Rattle.messages.specs.Received.{Received, received}
use Rattle.btsnoop_read.specs.Read.{is_header, datalink_in, records_at, records_in, told}
use Rattle.recordings.specs.declared.ReplayCounts.{ReplayCounts}
use Rattle.recordings.specs.Recording.{Running, no_counts, one_run, one_passed_over, one_refused, counted, started, ran_record, told_of, replayed}
use Rattle.host_recording.specs.declared.Replay.{Replay}
use Rattle.host_recording.specs.declared.ReplayError.{ReplayError}
use Rattle.host_recording.specs.declared.ReplayError.TheVariants as error
use Rattle.host_recording.specs.Answer.{error_reply, ended, running_of, walked_of}

-- each count at most n
pub record AtMost (n : ℕ) (c : ReplayCounts) : Type 0 where
  pub run : c.run ≤ n
  pub passed : c.passed_over ≤ n
  pub refused : c.refused ≤ n

-- a record more can be counted
abbrev pub Countable : ReplayCounts → Type 0
Countable c = AtMost (2 ^ 64 - 2) c

-- ---- a record more

pub none_counted : (n : ℕ) {c : ReplayCounts} → c ≡ no_counts → AtMost n c
none_counted n e =
    record {
      run = omega (arith, ap (λ (c : ReplayCounts). c.run) e);
      passed = omega (arith, ap (λ (c : ReplayCounts). c.passed_over) e);
      refused = omega (arith, ap (λ (c : ReplayCounts). c.refused) e);
    }

pub more : {n m : ℕ} {c : ReplayCounts} → AtMost n c → n ≤ m → AtMost m c
more a h = record { run = omega (arith, a.run); passed = omega (arith, a.passed); refused = omega (arith, a.refused) }

pub count_next : (n m : ℕ) (c : ReplayCounts) → AtMost n c → n + 1 ≤ m → (number : ℕ) {d : ReplayCounts} → d ≡ counted number c → AtMost m d
unfolding counted
count_next n m c a h number {d} e =
    rw e (go (eqb number 0) (eqb number (number_of Refusal.Packet)))
  where
    go : (x y : Bool) → AtMost m (cond x (one_run c) (cond y (one_passed_over c) (one_refused c)))
    go true y = record { run = omega (arith, a.run); passed = omega (arith, a.passed); refused = omega (arith, a.refused) }
    go false true = record { run = omega (arith, a.run); passed = omega (arith, a.passed); refused = omega (arith, a.refused) }
    go false false = record { run = omega (arith, a.run); passed = omega (arith, a.passed); refused = omega (arith, a.refused) }

-- ---- the walk

-- from a position on, the run goes as all of it does
abbrev pub GoesOn : ConnectionManager → ℕ → List ℕ → ℕ → Replay → Type 0
GoesOn t d s at p = told (ran_record received d) (running_of p) (records_at s at) ≡ told (ran_record received d) (started t) (records_in s)

-- ---- the whole, by its tests

-- no record is run
abbrev unrun : ReplayError → Running ConnectionManager → Received
unrun e r = record { reply = error_reply e; woken = r.woken; table = r.table }

module _ (s : List ℕ) (t : ConnectionManager) {x : Received} where
  pub not_formed : {p : Replay} → x ≡ ended (Err error.Setup) p → running_of p ≡ started t → well_formed t ≡ false → x ≡ replayed s t
  not_formed e b w = rw w (e ∙ ap (λ (r : Running ConnectionManager). unrun error.Setup r) b)

  pub no_header : {p : Replay} → x ≡ ended (Err error.Header) p → running_of p ≡ started t → well_formed t ≡ true → is_header s ≡ false
      → x ≡ replayed s t
  no_header e b w h = rw (w, h) (e ∙ ap (λ (r : Running ConnectionManager). unrun error.Header r) b)

  ran_all_lem : (d : ℕ) {y : Running ConnectionManager × Bool} → x ≡ told_of y → y ≡ told (ran_record received d) (started t) (records_in s)
      → d ≡ datalink_in s → well_formed t ≡ true → is_header s ≡ true → x ≡ replayed s t
  ran_all_lem d e f q w h =
      rw (w, h) (e ∙ ap told_of f ∙ ap (λ (k : ℕ). told_of (told (ran_record received k) (started t) (records_in s))) q)

  -- by what the walk gave
  module _ (d : ℕ) {r : Result Replay Replay} (f : walked_of r ≡ told (ran_record received d) (started t) (records_in s))
      (q : d ≡ datalink_in s) (w : well_formed t ≡ true) (h : is_header s ≡ true) where
    pub ran_whole : (p : Replay) → x ≡ ended (Ok p.counts) p → r ≡ Ok p → x ≡ replayed s t
    ran_whole p e g = ran_all_lem d {y = (running_of p, true)} e (ap walked_of (sym g) ∙ f) q w h

    pub ran_cut : (p : Replay) → x ≡ ended (Err (error.Record p.counts)) p → r ≡ Err p → x ≡ replayed s t
    ran_cut p e g = ran_all_lem d {y = (running_of p, false)} e (ap walked_of (sym g) ∙ f) q w h
