-- Every whole record is run, passed over or refused; and of events that are read none is passed over. Assumes nothing.
use Rattle.std.specs.Prelude.{ℕ, suc, ◌+◌, ◌≡◌, refl, ◌≢◌, Bool, true, false, cond, ◌||◌, List, [], ◌∷◌, eqb, leb, length, take, drop}
use Rattle.std.proofs.Common.{sym, ap, ◌∙◌, arith, ne_eqb}
use Rattle.std.proofs.lemmas.Bool.{false≢true}
use Rattle.std.proofs.Math.Option.{Option, none, some}
use Rattle.slot.specs.declared.ConnectionManager.{ConnectionManager}
use Rattle.model.specs.Answer.{Refusal, number_of}
use Rattle.model.specs.Find.{well_formed}
use Rattle.model.proofs.Laws.{and_left, and_right}
use Rattle.number_theorems.specs.Numbers.{is_in}
use Rattle.hci.specs.declared.HciEvent.{HciEvent}
use Rattle.hci.specs.declared.HciEvent.TheVariants.{DisconnectionComplete, LeConnectionComplete, LeConnectionUpdateComplete}
use Rattle.hci.specs.Read.{event_in}
use Rattle.completed_packets.specs.Format.{Pair}
use Rattle.completed_packets.specs.Read.{completed_in}
use Rattle.messages.specs.Received.{ReceivedOn, received, received_as}
use Rattle.message_theorems.specs.Numbers.{numbers_as, MessageNumbers}
use Rattle.message_theorems.proofs.Answers.{message_numbers}
use Rattle.btsnoop_read.specs.Format.{Record, record_of}
use Rattle.btsnoop_read.specs.Read.{is_header, datalink_in, records_in, folded}
use Rattle.btsnoop_write.specs.Events.{is_some, is_read, event_records, parts_read}
use Rattle.recordings.specs.declared.ReplayCounts.{ReplayCounts}
use Rattle.recordings.specs.Recording.{Receive, Running, event_of, received_event, one_run, one_passed_over, one_refused, counted, count_values, started, ran, ran_record, replayed}
use Rattle.recording_theorems.specs.Statement.{total, EachCounted, TakesWhatIsRead}

-- ---- every record is counted once, however it is received

counted_once : (number : ℕ) (c : ReplayCounts) → total (count_values (counted number c)) ≡ suc (total (count_values c))
unfolding counted
counted_once number c = go (eqb number 0) (eqb number (number_of Refusal.Packet))
  where
    go : (x y : Bool) → total (count_values (cond x (one_run c) (cond y (one_passed_over c) (one_refused c)))) ≡ suc (total (count_values c))
    go true y = omega arith
    go false true = omega arith
    go false false = omega arith

pub counts_all : {T : Type 0} (receive : Receive T) (d : ℕ) (rs : List Record) (p : Running T)
    → total (count_values (folded (ran_record receive d) p rs).counts) ≡ total (count_values p.counts) + length rs
counts_all receive d [] p = omega arith
counts_all receive d (r ∷ rs) p =
    let q = ran_record receive d p r in
    let n = (received_event receive (event_of d r.flags r.bytes) p.table).reply.number in
    omega (arith, counts_all receive d rs q, counted_once n p.counts)

pub each_counted : EachCounted
unfolding EachCounted
each_counted s t w h = rw (w, h) (counts_all received (datalink_in s) (records_in s).records (started t) ∙ omega arith)

-- ---- an event that is read is not answered with 9

not_nine : (n : ℕ) (ns : List ℕ) → is_in n ns ≡ true → is_in 9 ns ≡ false → n ≢ 9
not_nine n ns i h e = false≢true (sym h ∙ ap (λ (m : ℕ). is_in m ns) (sym e) ∙ i)

read_number : (s : List ℕ) (t : ConnectionManager) → is_read s ≡ true → (received s t).reply.number ≢ 9
unfolding is_read MessageNumbers
read_number s t r = go (event_in s) (completed_in s) r
  where
    go : (e : Option HciEvent) (ps : Option (List Pair)) → (is_some e || is_some ps) ≡ true → (received_as e ps t).reply.number ≢ 9
    go (some (DisconnectionComplete e)) ps q = not_nine _ (0 ∷ 2 ∷ 8 ∷ []) (message_numbers.0 (some (DisconnectionComplete e)) ps t) refl
    go (some (LeConnectionComplete e)) ps q = not_nine _ (0 ∷ 2 ∷ 8 ∷ 15 ∷ []) (message_numbers.0 (some (LeConnectionComplete e)) ps t) refl
    go (some (LeConnectionUpdateComplete e)) ps q = not_nine _ (0 ∷ 2 ∷ 4 ∷ 8 ∷ []) (message_numbers.0 (some (LeConnectionUpdateComplete e)) ps t) refl
    go none (some ps) q = not_nine _ (0 ∷ 8 ∷ []) (message_numbers.0 none (some ps) t) refl
    go none none q = absurd (false≢true q)

unread_number : (s : List ℕ) (t : ConnectionManager) → is_read s ≡ false → (received s t).reply.number ≡ 9
unfolding is_read
unread_number s t r = go (event_in s) (completed_in s) r
  where
    go : (e : Option HciEvent) (ps : Option (List Pair)) → (is_some e || is_some ps) ≡ false → (received_as e ps t).reply.number ≡ 9
    go (some e) ps q = absurd (false≢true (sym q))
    go none (some ps) q = absurd (false≢true (sym q))
    go none none q = refl

pub takes_what_is_read : TakesWhatIsRead
unfolding TakesWhatIsRead
takes_what_is_read s t = (read_number s t, unread_number s t)

-- ---- so none of the writer's records is passed over

kept_passed : (number : ℕ) (c : ReplayCounts) → number ≢ 9 → (counted number c).passed_over ≡ c.passed_over
unfolding counted
kept_passed number c h = rw (ne_eqb number 9 h) (go (eqb number 0))
  where
    go : (x : Bool) → (cond x (one_run c) (one_refused c)).passed_over ≡ c.passed_over
    go true = refl
    go false = refl

pub passes_none : (es ns ds ts : List ℕ) (p : Running ConnectionManager) → parts_read es ns ≡ true
    → (folded (ran_record received 1001) p (event_records es ns ds ts)).counts.passed_over ≡ p.counts.passed_over
unfolding event_records parts_read received_event
passes_none es [] ds ts p e = refl
passes_none es (n ∷ ns) [] ts p e = refl
passes_none es (n ∷ ns) (d ∷ ds) [] p e = refl
passes_none es (n ∷ ns) (d ∷ ds) (t ∷ ts) p e =
    let r = and_right (leb n (length es)) _ e in
    passes_none (drop n es) ns ds ts (ran_record received 1001 p (record_of n 3 d t (take n es))) (and_right (is_read (take n es)) _ r)
    ∙ kept_passed _ p.counts (read_number (take n es) p.table (and_left (is_read (take n es)) _ r))
