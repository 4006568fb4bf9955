-- What a session answers to a command, and what is chosen afterwards. Assumes nothing.
use Rattle.std.specs.Prelude.{◌≡◌, ℕ, List, Some, None, Ok, Err, vec_items, Option, Result}
use Rattle.mvl.specs.Answers.{Carries, Multiplies, Inverts, Homes, Asks, Tells}
use Rattle.mvl.specs.declared.refusal.Refusal.{Refusal}
use Rattle.operations.specs.Filling.{Fills}
use Rattle.operations.specs.Turning.{Sets}
use Rattle.operations.specs.declared.table_operation.TableOperation.{TableOperation}
use Rattle.scripts.specs.declared.kinds.LabellingKind.{LabellingKind}
use Rattle.scripts.specs.declared.kinds.OperationKind.{OperationKind}
use Rattle.scripts.specs.declared.any_labelling.AnyLabelling.{AnyLabelling}
use Rattle.scripts.specs.declared.any_operation.AnyOperation.{AnyOperation}
use Rattle.scripts.specs.declared.any_operation.AnyOperation.TheVariants.{Table}
use Rattle.scripts.specs.declared.chosen.Chosen.TheVariants.{Alone, Turned}
use Rattle.scripts.specs.declared.grid.Grid.{Grid}
use Rattle.scripts.specs.declared.reply.Reply.{Reply}
use Rattle.scripts.specs.declared.reply.Reply.TheVariants.{Done, Answer, Told, Shown, Said}
use Rattle.scripts.specs.declared.reply.Missing.{Missing}
use Rattle.scripts.specs.declared.command.Command.{Command}
use Rattle.scripts.specs.declared.command.Command.TheVariants.{ChooseLabelling, ChooseOperation, Fill, Turn, Ask, Tell, Values, Carry, Product, Inverse, Home, Labels, Say}
use Rattle.scripts.specs.declared.session.Session.{Session}
use Rattle.scripts.specs.Kinds.{MakesLabelling, MakesOperation}
use Rattle.scripts.specs.Meanings.{TurnedAny, labelling_meaning, operation_meaning, chosen_meaning}
use Rattle.scripts.specs.Needed.{labelling_at, operation_at, alone_at, table_at, both_at}
use Rattle.scripts.specs.Shown.{ShowsAnswers, ShowsCarries}

abbrev pub nothing_chosen : Session
nothing_chosen = record { labelling = None; operation = None }

-- a labelling is chosen; a refusal changes nothing, here and below
abbrev pub ChoosesLabelling : Session → LabellingKind → ℕ → Result (Unit {0}) Refusal → Session → Type 0
ChoosesLabelling s kind p (Ok done) s' =
    (l : AnyLabelling) × MakesLabelling kind p (Ok l) × (s' ≡ record { labelling = Some l; operation = s.operation })
ChoosesLabelling s kind p (Err e) s' = MakesLabelling kind p (Err e) × (s' ≡ s)

-- an operation is chosen
abbrev pub ChoosesOperation : Session → OperationKind → ℕ → Result (Unit {0}) Refusal → Session → Type 0
ChoosesOperation s kind p (Ok done) s' =
    (o : AnyOperation) × MakesOperation kind p (Ok o) × (s' ≡ record { labelling = s.labelling; operation = Some (Alone o) })
ChoosesOperation s kind p (Err e) s' = MakesOperation kind p (Err e) × (s' ≡ s)

-- the table at hand is filled
abbrev pub FillsAt : Session → TableOperation → List ℕ → Result (Unit {0}) Refusal → Session → Type 0
FillsAt s t bytes (Ok done) s' =
    (t' : TableOperation) × Fills t bytes (Ok done) t' × (s' ≡ record { labelling = s.labelling; operation = Some (Alone (Table t')) })
FillsAt s t bytes (Err e) s' = Fills t bytes (Err e) t × (s' ≡ s)

-- an operation seen through a labelling, with these labels
abbrev pub seen_through : AnyOperation → AnyLabelling → ℕ → ℕ → ℕ → TurnedAny
seen_through o l i j k = record { below = o; labelling = l; left = i; right = j; answer = k }

-- the operation at hand is turned anew, from what it is without turning
abbrev pub TurnsAt : Session → AnyOperation → AnyLabelling → ℕ → ℕ → ℕ → Result (Unit {0}) Refusal → Session → Type 0
TurnsAt s o l i j k (Ok done) s' =
    Sets operation_meaning labelling_meaning i j k (seen_through o l 0 0 0) (Ok done) (seen_through o l i j k)
    × (s' ≡ record { labelling = s.labelling; operation = Some (Turned (seen_through o l i j k)) })
TurnsAt s o l i j k (Err e) s' =
    Sets operation_meaning labelling_meaning i j k (seen_through o l 0 0 0) (Err e) (seen_through o l 0 0 0) × (s' ≡ s)

-- the kinds of replies
abbrev pub DoneSo : (Result (Unit {0}) Refusal → Type 0) → Reply → Type 0
DoneSo P (Done r) = P r
DoneSo P (Answer r) = ⊥
DoneSo P (Told r) = ⊥
DoneSo P (Shown g) = ⊥
DoneSo P Said = ⊥

abbrev pub AnswersSo : (Result ℕ Refusal → Type 0) → Reply → Type 0
AnswersSo P (Done r) = ⊥
AnswersSo P (Answer r) = P r
AnswersSo P (Told r) = ⊥
AnswersSo P (Shown g) = ⊥
AnswersSo P Said = ⊥

abbrev pub TellsSo : (Result (Option ℕ) Refusal → Type 0) → Reply → Type 0
TellsSo P (Done r) = ⊥
TellsSo P (Answer r) = ⊥
TellsSo P (Told r) = P r
TellsSo P (Shown g) = ⊥
TellsSo P Said = ⊥

abbrev pub ShowsSo : (Grid → Type 0) → Reply → Type 0
ShowsSo P (Done r) = ⊥
ShowsSo P (Answer r) = ⊥
ShowsSo P (Told r) = ⊥
ShowsSo P (Shown g) = P g
ShowsSo P Said = ⊥

-- a command that needs nothing
abbrev pub Replies : (Reply → Type 0) → Result Reply Missing → Type 0
Replies P (Ok reply) = P reply
Replies P (Err missing) = ⊥

-- what the command needs is there, and the reply is as it should be; or it is not, which alone is said
abbrev pub With : {A : Type 0} → Result A Missing → (A → Reply → Type 0) → Result Reply Missing → Type 0
With (Ok a) P (Ok reply) = P a reply
With (Ok a) P (Err missing) = ⊥
With (Err lack) P (Ok reply) = ⊥
With (Err lack) P (Err missing) = missing ≡ lack

-- the same of a command that may change what is chosen, from s to s': where something is lacking, nothing changes
abbrev pub Changing : {A : Type 0} → Session → Result A Missing → (A → Reply → Type 0) → Result Reply Missing → Session → Type 0
Changing s need P (Ok reply) s' = With need P (Ok reply)
Changing s need P (Err missing) s' = With need P (Err missing) × (s' ≡ s)

-- session s answers r to a command, and is s' afterwards
abbrev pub Obeys : Session → Command → Result Reply Missing → Session → Type 0
Obeys s (ChooseLabelling kind p) r s' = Replies (DoneSo (λ d. ChoosesLabelling s kind p d s')) r
Obeys s (ChooseOperation kind p) r s' = Replies (DoneSo (λ d. ChoosesOperation s kind p d s')) r
Obeys s (Fill bytes) r s' = Changing s (table_at s.operation) (λ t. DoneSo (λ d. FillsAt s t (vec_items bytes) d s')) r s'
Obeys s (Turn i j k) r s' = Changing s (both_at s) (λ both. DoneSo (λ d. TurnsAt s both.0 both.1 i j k d s')) r s'
Obeys s (Ask a b) r s' = With (operation_at s.operation) (λ o. AnswersSo (Asks (chosen_meaning o) a b)) r × (s' ≡ s)
Obeys s (Tell a) r s' = With (alone_at s.operation) (λ o. TellsSo (Tells (operation_meaning o) a)) r × (s' ≡ s)
Obeys s Values r s' = With (operation_at s.operation) (λ o. ShowsSo (ShowsAnswers (chosen_meaning o))) r × (s' ≡ s)
Obeys s (Carry k v) r s' = With (labelling_at s.labelling) (λ l. AnswersSo (Carries (labelling_meaning l) k v)) r × (s' ≡ s)
Obeys s (Product a b) r s' = With (labelling_at s.labelling) (λ l. AnswersSo (Multiplies (labelling_meaning l) a b)) r × (s' ≡ s)
Obeys s (Inverse a) r s' = With (labelling_at s.labelling) (λ l. AnswersSo (Inverts (labelling_meaning l) a)) r × (s' ≡ s)
Obeys s (Home v) r s' = With (labelling_at s.labelling) (λ l. AnswersSo (Homes (labelling_meaning l) v)) r × (s' ≡ s)
Obeys s Labels r s' = With (labelling_at s.labelling) (λ l. ShowsSo (ShowsCarries (labelling_meaning l))) r × (s' ≡ s)
Obeys s (Say text) r s' = (r ≡ Ok Said) × (s' ≡ s)
