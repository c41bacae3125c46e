-- A serial run in its course: what was executed, what of it was sent, and what waits.
use Rattle.std.proofs.Common.{◌≡◌, ℕ, ◌+◌, ◌⊎◌, Option, None, List, [], ◌∷◌, ◌++◌, length}
use Rattle.std.proofs.Common.{refl, sym, ◌∙◌, ap, subst, arith, ⊎_elim}
use Rattle.std.specs.Prelude.{flat_map}
use Rattle.std.specs.Io.KnownBytes.{append_known}
use Rattle.std.proofs.lemmas.List.{append-nil}
use Rattle.std.proofs.lemmas.Grind.{flat_map-append}
use Rattle.pg_base.specs.Writing.{Sent, SendsFront}
use Rattle.pg_base.proofs.Sending.{sent_nothing, sent_whole}
use Rattle.pg_graph.specs.Multigraph.{Multigraph}
use Rattle.pg_law.specs.declared.values.JournalEntry.{JournalEntry}
use Rattle.pg_law.specs.Program.{Program}
use Rattle.pg_law.specs.Configuration.{Configuration}
use Rattle.pg_law.specs.Round.{execution}
use Rattle.pg_law.specs.Journal.{replay}
use Rattle.pg_serial.specs.Journals.{gathers_over, gather_degree}
use Rattle.pg_serial.specs.Queue.{IsNext}
use Rattle.pg_serial.specs.Serial.{least_signalled, entry_of, serial_journal}
use Rattle.pg_serial.proofs.Journals.{replay_none}
use Rattle.pg_serial.proofs.Serials.{serial_zero, serial_none, serial_go, split_more, split_all, replay_more, gathers_more, length_more}
use Rattle.pg_serial.proofs.Waiting.{sent_then, front_then, front_longer}

-- the executions so far began the run, and of their texts all was sent but what waits
pub record SoFar {Acc Carry : Type 0} (p : Program Acc Carry) (g : Multigraph) (text : JournalEntry → List ℕ) (fuel : ℕ)
    (start now : Configuration) (left gathers : ℕ) (before after : Option (List ℕ)) (waiting : List ℕ) : Type 0 where
  pub done : List JournalEntry
  pub split : serial_journal p g start fuel ≡ done ++ serial_journal p g now left
  pub state : now ≡ replay p g start done
  pub count : length done + left ≡ fuel
  pub summed : gathers ≡ gathers_over p g done
  pub sent : Sent before after (flat_map text done) waiting

module _ {Acc Carry : Type 0} (p : Program Acc Carry) (g : Multigraph) (text : JournalEntry → List ℕ) (fuel : ℕ) (start : Configuration) (before : Option (List ℕ)) where
  abbrev whole : List JournalEntry
  whole = serial_journal p g start fuel

  pub begun : SoFar p g text fuel start start fuel 0 before before []
  begun = record { done = []; split = refl; state = sym (replay_none p g start); count = omega arith; summed = refl; sent = sent_nothing before [] }

  module _ (now : Configuration) (left gathers : ℕ) (after : Option (List ℕ)) (waiting : List ℕ)
      (so_far : SoFar p g text fuel start now left gathers before after waiting) where
    -- a front of the texts of what was done is one of all texts
    front_of_done : (more : Option (List ℕ)) (rest : List JournalEntry) (entries : List JournalEntry) → whole ≡ entries ++ rest
        → SendsFront before more (flat_map text entries) → SendsFront before more (flat_map text whole)
    front_of_done more rest entries split front = subst (SendsFront before more)
        (sym (flat_map-append text entries rest) ∙ ap (flat_map text) (sym split))
        (front_longer before more (flat_map text entries) (flat_map text rest) front)

    -- where nothing more is sent
    pub front_now : SendsFront before after (flat_map text whole)
    front_now = front_of_done after (serial_journal p g now left) so_far.done so_far.split (waiting, so_far.sent)

    module _ (u : ℕ) (next : IsNext g now left u) (later : ℕ) (is_later : left ≡ later + 1) where
      abbrev entry : JournalEntry
      entry = entry_of p g now u

      abbrev rest : List JournalEntry
      rest = serial_journal p g (execution p g now u) later

      one_more : whole ≡ (so_far.done ++ entry ∷ []) ++ rest
      one_more = split_more whole so_far.done rest (serial_journal p g now left) entry so_far.split (serial_go p g now left later u next.least is_later)

      texts_more : flat_map text so_far.done ++ text entry ≡ flat_map text (so_far.done ++ entry ∷ [])
      texts_more = ap (λ xs. flat_map text so_far.done ++ xs) (sym (append-nil (text entry))) ∙ sym (flat_map-append text so_far.done (entry ∷ []))

      -- where the next entry couldn't be put whole
      pub front_more : (more : Option (List ℕ)) → SendsFront after more (waiting ++ text entry) → SendsFront before more (flat_map text whole)
      front_more more front = front_of_done more rest (so_far.done ++ entry ∷ []) one_more
          (subst (SendsFront before more) texts_more (front_then before after more (flat_map text so_far.done) waiting (text entry) so_far.sent front))

      -- where it was
      pub went_on : (new : Configuration) (more : Option (List ℕ)) (waits : List ℕ) (degree : ℕ) → new ≡ execution p g now u → degree ≡ gather_degree p g u
          → Sent after more (waiting ++ text entry) waits → SoFar p g text fuel start new later (gathers + degree) before more waits
      went_on new more waits degree executed counted sent = record {
        done = so_far.done ++ entry ∷ [];
        split = one_more ∙ ap (λ s. (so_far.done ++ entry ∷ []) ++ serial_journal p g s later) (sym executed);
        state = replay_more p g start now new so_far.done entry so_far.state executed;
        count = omega (arith, so_far.count, is_later, length_more so_far.done entry);
        summed = gathers_more p g so_far.done entry gathers degree so_far.summed counted;
        sent = let Goes : List ℕ → Type 0 = λ texts. Sent before more texts waits in
            subst Goes texts_more (sent_then before after more (flat_map text so_far.done) waiting (text entry) waits so_far.sent sent);
      }

    module _ (over : (left ≡ 0) ⊎ (least_signalled g now ≡ None)) where
      -- where nothing is left to execute, that was all
      pub all_done : whole ≡ so_far.done
      all_done = split_all whole so_far.done (serial_journal p g now left) so_far.split
          (⊎_elim (serial_zero p g now left) (serial_none p g now left) over)

      pub front_last : (more : Option (List ℕ)) → SendsFront after more waiting → SendsFront before more (flat_map text whole)
      front_last more front = front_of_done more [] so_far.done (all_done ∙ sym (append-nil so_far.done))
          (subst (SendsFront before more) (append-nil (flat_map text so_far.done))
          (front_then before after more (flat_map text so_far.done) waiting [] so_far.sent (subst (SendsFront after more) (sym (append-nil waiting)) front)))

      pub all_sent : (more : Option (List ℕ)) (waits : List ℕ) → Sent after more waiting waits → waits ≡ [] → more ≡ append_known before (flat_map text whole)
      all_sent more waits sent none = let Goes : List ℕ → Type 0 = λ texts. Sent after more texts waits in
          sent_whole (sent_then before after more (flat_map text so_far.done) waiting [] waits so_far.sent (subst Goes (sym (append-nil waiting)) sent)) none
          ∙ ap (append_known before) (append-nil (flat_map text so_far.done) ∙ ap (flat_map text) (sym all_done))

      pub all_replayed : now ≡ replay p g start whole
      all_replayed = so_far.state ∙ ap (replay p g start) (sym all_done)

      pub all_counted : length whole + left ≡ fuel
      all_counted = omega (arith, so_far.count, ap length all_done)

      pub all_summed : gathers ≡ gathers_over p g whole
      all_summed = so_far.summed ∙ ap (gathers_over p g) (sym all_done)
