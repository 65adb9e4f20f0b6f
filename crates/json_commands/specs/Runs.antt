-- What a run writes, or why it stops.
use Rattle.std.specs.Prelude.{ℕ, suc, ◌≡◌, cond, Bool, true, false, List, [], ◌∷◌, ◌++◌, codes}
use Rattle.std.specs.Prelude.{Option, Some, None, ok_or, IfSome, Result, Ok, Err, IfErr}
use Rattle.std.specs.Str.{bytes_eq}
use Rattle.json.specs.Json.{Json}
use Rattle.json.specs.Layout.{pretty}
use Rattle.json.specs.Print.{print}
use Rattle.json.specs.Tree.{json_tokens}
use Rattle.ordered_json.specs.Read.{read}
use Rattle.ordered_json.specs.declared.edit.EditError.{EditError}
use Rattle.json_commands.specs.Commands.{Edit, edit_of}
use Rattle.json_commands.specs.declared.help.TheConstants.{HELP}
use Rattle.json_commands.specs.declared.stop.Stop.{Stop}
use Rattle.json_commands.specs.declared.stop.Stop.TheVariants.{NoCommand, NoJson, Refused}
use Rattle.json_commands.specs.declared.stop.Stop.TheVariants.{OutOfMemory, SeedFailed, InputFailed, OutputFailed}

-- the text of a number says no command, or the input, 0, no document; or the command of a number is
-- refused
pub data Fault : Type 0 where
  wrong : ℕ → Fault
  refused : ℕ → EditError → Fault

-- f of a value, or the fault of an error
abbrev pub then : {A B E : Type 0} → (E → Fault) → (A → Result B Fault) → Result A E → Result B Fault
then fault_of f (Ok value) = f value
then fault_of f (Err error) = Err (fault_of error)

-- f of a value, if there is one, or a fault
abbrev pub if_some : {A B : Type 0} → Fault → (A → Result B Fault) → Option A → Result B Fault
if_some fault f None = Err fault
if_some fault f (Some value) = f value

-- the edits that texts say, or the first text that says none, counted from n on
abbrev pub edits_of : ℕ → List (List ℕ) → Result (List Edit) Fault
edits_of n [] = Ok []
edits_of n (text ∷ texts) =
    if_some (wrong n) (λ f. then (λ fault. fault) (λ fs. Ok (f ∷ fs)) (edits_of (suc n) texts)) (edit_of text)

-- the document after edits, or the first that is refused, counted from n on
abbrev pub after : ℕ → List Edit → Json → Result Json Fault
after n [] j = Ok j
after n (f ∷ fs) j = then (refused n) (after (suc n) fs) (f j)

-- the arguments ask for the help
abbrev pub is_help : List (List ℕ) → Bool
is_help [] = false
is_help (word ∷ []) = bytes_eq word (codes "--help")
is_help (word ∷ other ∷ words) = false

-- whether the document is to be written with no space, and the texts of the commands
abbrev pub parts : List (List ℕ) → Bool × List (List ℕ)
parts [] = (false, [])
parts (word ∷ words) = cond (bytes_eq word (codes "--compact")) (true, words) (false, word ∷ words)

-- the text of a document, with a line feed
abbrev pub text_of : Bool → Json → List ℕ
text_of is_compact j = cond is_compact (print (json_tokens j)) (pretty (json_tokens j)) ++ 10 ∷ []

-- the text of the document of an input after commands, or the first fault: of the texts of these, of the input, of the edits
abbrev pub edited : Bool → List (List ℕ) → List ℕ → Result (List ℕ) Fault
edited is_compact texts input =
    then (λ fault. fault) (λ edits. if_some (wrong 0)
    (λ j. then (λ fault. fault) (λ k. Ok (text_of is_compact k)) (after 1 edits j)) (read input))
    (edits_of 1 texts)

-- what a run writes: the help, or the text of the document, or the first fault
abbrev pub output_of : List (List ℕ) → List ℕ → Result (List ℕ) Fault
output_of arguments input =
    cond (is_help arguments) (Ok HELP.now) (edited (parts arguments).0 (parts arguments).1 input)

-- ---- stops

-- the exit status
abbrev pub status_of : Stop → ℕ
status_of (Refused n error) = 1
status_of OutOfMemory = 3
status_of (SeedFailed kind) = 4
status_of (InputFailed kind) = 4
status_of (OutputFailed kind) = 4
status_of stop = 2

-- the fault that a run stops at, if there is one
abbrev pub fault : Stop → Option Fault
fault (NoCommand n) = Some (wrong n)
fault (NoJson n line column) = Some (wrong n)
fault (Refused n error) = Some (refused n error)
fault stop = None

-- P of the fault that a run stops at
abbrev pub OnFault : {A : Type 0} → Result A Stop → (Fault → Type 0) → Type 0
OnFault result P = IfErr result (λ stop. IfSome (fault stop) P)

-- a result has f of the value that another one has, or stops at its fault, or at memory, input
-- or output that failed
abbrev pub Gives : {A B : Type 0} → Result B Fault → (A → B) → Result A Stop → Type 0
Gives other f (Ok value) = other ≡ Ok (f value)
Gives other f (Err stop) = IfSome (fault stop) (λ error. other ≡ Err error)

-- text n says what a result has f of, or it says nothing, or memory failed
abbrev pub Says : {A B : Type 0} → ℕ → Option B → (A → B) → Result A Stop → Type 0
Says n said f (Ok value) = said ≡ Some (f value)
Says n said f (Err stop) = IfSome (fault stop) (λ error. (error ≡ wrong n) × (said ≡ None))
