-- The law over runs: whatever calls are made, the table stays sound, every edge answered keeps its function, equal functions have one edge, and no diagram is smaller. Assumes nothing.
use Rattle.std.proofs.Common.{List, [], ◌∷◌, sym, refl, ap, ◌∙◌, subst, inl, inr}
use Rattle.mvl.specs.Labels.{Meaning, Laws}
use Rattle.diagrams.specs.Functions.{Agree}
use Rattle.diagrams.specs.Diagram.{Edge, value, Of}
use Rattle.diagrams.specs.Calls.{Table, Sound, Empty, Call, asks, exchange, AllProper}
use Rattle.diagrams.specs.Runs.{Answer, Step, answers, exchanges, refuses, Answered, noted, Run, begins, goes, In, SameCard, Kept}
use Rattle.diagrams.specs.Perform.{granted, perform, play_on}
use Rattle.diagrams.specs.Theorems.{Plays, RunsKeep, RunsGoOn}
use Rattle.diagrams.proofs.Canonical.{canonical}
use Rattle.diagrams.proofs.Least.Counting.{least}
use Rattle.diagrams.proofs.Build.Keep.{of_kept, value_kept}
use Rattle.diagrams.proofs.Exchange.Values.{exchange_value}
use Rattle.diagrams.proofs.Calls.Perform.{performs}
use Rattle.diagrams.proofs.Calls.Room.{step_sound, empty_sound}

-- what holds of the present table, which was t₀ at first, and of every edge answered so far
record Holds (m : Meaning) (t₀ t : Table) (xs : List Answered) : Type 0 where
  sound : Sound m t
  card : SameCard t₀ t
  of : (x : Answered) → In x xs → Of m t.nodes x.edge
  means : (x : Answered) → In x xs → Agree t.shape (value m t.shape t.nodes x.edge) x.function
  old_of : {e : Edge} → Of m t₀.nodes e → Of m t.nodes e
  old_means : {e : Edge} → Of m t₀.nodes e → Agree t.shape (value m t.shape t.nodes e) (value m t₀.shape t₀.nodes e)

step_holds : {m : Meaning} {t₀ now after : Table} {xs : List Answered} {c : Call} {r : Answer} → Laws m → Holds m t₀ now xs → Step m now c r after
    → Holds m t₀ after (noted m now c r xs)
step_holds {m} {now = now} {xs = xs} l h (answers q d' e granted gains) =
    let next = step_sound l h.sound (answers q d' e granted gains) in
    record {
      sound = next.0;
      card = record { capacity = h.card.capacity; count = h.card.count; size = h.card.size };
      of = λ x. elim [
        | inl same ↦ subst (λ (y : Answered). Of m d' y.edge) (sym same) gains.of
        | inr older ↦ of_kept now.nodes d' gains.keeps.has m
            (h.of x older)
      ];
      means = λ x. elim [
        | inl same ↦ subst (λ (y : Answered). Agree now.shape (value m now.shape d' y.edge) y.function) (sym same) gains.function
        | inr older ↦ λ a assigns. value_kept m gains.keeps h.sound.reduced.ordered (h.of x older).over a assigns ∙ h.means x older a assigns
      ];
      old_of = λ of. of_kept now.nodes d' gains.keeps.has m (h.old_of of);
      old_means = λ of a assigns. value_kept m gains.keeps h.sound.reduced.ordered (h.old_of of).over a assigns ∙ h.old_means of a assigns;
    }
step_holds {m} {now = now} {xs = xs} l h (exchanges p d' granted ex) =
    let next = step_sound l h.sound (exchanges p d' granted ex) in
    record {
      sound = next.0;
      card = record { capacity = h.card.capacity; count = h.card.count; size = h.card.size };
      of = λ x within. of_kept now.nodes d' ex.keeps m (h.of x within);
      means = λ x within a assigns. exchange_value l h.sound.shape_laws h.sound.reduced ex (h.of x within) a assigns ∙ h.means x within a assigns;
      old_of = λ of. of_kept now.nodes d' ex.keeps m (h.old_of of);
      old_means = λ of a assigns. exchange_value l h.sound.shape_laws h.sound.reduced ex (h.old_of of) a assigns ∙ h.old_means of a assigns;
    }
step_holds l h (refuses (asks q) k is) = h
step_holds l h (refuses (exchange p) k is) = h

runs_hold : {m : Meaning} {t t' : Table} {xs : List Answered} → Laws m → Sound m t → Run m t xs t' → Holds m t t' xs
runs_hold l sound begins = record {
  sound = sound;
  card = record { capacity = refl; count = refl; size = λ x. refl };
  of = λ x. absurd;
  means = λ x. absurd;
  old_of = λ of. of;
  old_means = λ of a assigns. refl;
}
runs_hold l sound (goes run c r after step) = step_holds l (runs_hold l sound run) step

-- two edges that are kept are one where their functions agree, and no diagram is smaller
holds_kept : {m : Meaning} {t₀ t : Table} {xs : List Answered} → Laws m → Holds m t₀ t xs → Kept m t xs
holds_kept {m} {t = t} l h =
    let sl = h.sound.shape_laws in
    let red = h.sound.reduced in
    record {
      of = h.of;
      means = h.means;
      unique = λ x y in-x in-y. (
        λ same a assigns. sym (h.means x in-x a assigns) ∙ ap (λ e. value m t.shape t.nodes e a) same ∙ h.means y in-y a assigns,
        λ agree. canonical l sl red (h.of x in-x) (h.of y in-y) (λ a assigns. h.means x in-x a assigns ∙ agree a assigns ∙ sym (h.means y in-y a assigns)),
      );
      least = λ x within d e ordered over agree. least l sl red ordered (h.of x within) over (λ a assigns. agree a assigns ∙ sym (h.means x within a assigns));
    }

-- whatever calls were made on a table that keeps the rules, all of it holds
pub runs_go_on : RunsGoOn
runs_go_on m l t sound xs t' run = let h = runs_hold l sound run in (h.sound, holds_kept l h, h.card, λ e of. (h.old_of of, h.old_means of))

-- and so on one that was empty
pub runs_keep : RunsKeep
runs_keep m l t empty xs t' run = let h = runs_hold l (empty_sound m t empty) run in (h.sound, holds_kept l h, h.card)

plays_on : (m : Meaning) → Laws m → (t : Table) → Empty t → (xs : List Answered) (now : Table) → Run m t xs now → (cs : List Call) → AllProper cs
    → Run m t (play_on m xs now cs).0 (play_on m xs now cs).1
plays_on m l t empty xs now run [] ok = run
plays_on m l t empty xs now run (c ∷ cs) ok =
    let step = performs l (runs_hold l (empty_sound m t empty) run).sound c ok.0 in
    plays_on m l t empty (noted m now c (perform m now c).0 xs) (perform m now c).1 (goes run c (perform m now c).0 (perform m now c).1 step) cs ok.1

-- whatever is called, there is a run
pub plays : Plays
plays m l t empty cs ok = plays_on m l t empty [] t begins cs ok
