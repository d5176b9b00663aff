-- What is read from a file is a script, with no more lines than the file has octets.
use Rattle.std.proofs.Common.{arith, ◌≡◌, ◌+◌, ◌≤◌, ℕ, List, [], ◌∷◌, ◌++◌, length, length-append, Result, Ok, Err, sym, ap, subst, codes}
use Rattle.std.specs.Prelude.{IfOk}
use Rattle.std.specs.Fmt.{decimal}
use Rattle.hex.specs.Hex.{encode_lower}
use Rattle.hk_base.specs.TailoringParts.{TailoringParts}
use Rattle.board_scripts.specs.Lines.{send_text, start_text, number_text, percents_text}
use Rattle.board_scripts.specs.Scripts.{script_of_text}
use Rattle.board_scripts.specs.Spelling.{IsScript, sendings_text, settings_text, script_text}
use Rattle.board_scripts.specs.Outcomes.{Reads}
use Rattle.board_scripts.specs.declared.script.Script.{Script}
use Rattle.board_scripts.specs.declared.script.Sending.{Sending}
use Rattle.board_scripts.specs.declared.fault.ScriptFault.{ScriptFault}
use Rattle.board_scripts.proofs.ScriptsAgain.{script-only}
use Rattle.board_scripts.proofs.ScriptsAre.{script-is}

-- a text is no longer than one that ends with it
behind : (front text : List ℕ) (n : ℕ) → n ≤ length text → n ≤ length (front ++ text)
behind front text n few = omega (arith, few, length-append front text)

-- each line has octets
few-lines : (xs : List Sending) → length xs ≤ length (sendings_text xs)
few-lines [] = omega arith
few-lines (x ∷ xs) =
    let line : List ℕ = decimal x.slot ++ (codes " " ++ (encode_lower x.packet ++ codes "\n")) in
    omega (arith, few-lines xs, length-append (send_text x.slot x.packet) (sendings_text xs), length-append (codes "send ") line)

few-behind : (s : Script) → length s.sendings ≤ length (script_text s)
few-behind s =
    let n = length s.sendings in
    let sent = sendings_text s.sendings in
    let delay : List ℕ = number_text (codes "delay") s.link.delay ++ sent in
    let repeat : List ℕ = percents_text (codes "repeat") s.link.repeat.requests s.link.repeat.reports ++ delay in
    let loss : List ℕ = percents_text (codes "loss") s.link.loss.requests s.link.loss.reports ++ repeat in
    let slots : List ℕ = number_text (codes "slots") s.slots ++ settings_text s.link sent in
    behind (start_text s.known) slots n
    (behind (number_text (codes "slots") s.slots) (settings_text s.link sent) n
    (behind (number_text (codes "seed") s.link.seed) loss n
    (behind (percents_text (codes "loss") s.link.loss.requests s.link.loss.reports) repeat n
    (behind (percents_text (codes "repeat") s.link.repeat.requests s.link.repeat.reports) delay n
    (behind (number_text (codes "delay") s.link.delay) sent n (few-lines s.sendings))))))

pub read-is : (t : TailoringParts) (text : List ℕ) (result : Result Script ScriptFault) → Reads (λ s. s) result (script_of_text t text) → IfOk result (IsScript t)
read-is t text (Ok s) read = script-is t s text read
read-is t text (Err fault) read = tt

pub read-few : (t : TailoringParts) (text : List ℕ) (most : ℕ) (result : Result Script ScriptFault) → length text ≤ most → Reads (λ s. s) result (script_of_text t text)
    → IfOk result (λ s. length s.sendings ≤ most)
read-few t text most (Ok s) within read =
    let few : length s.sendings ≤ length text = subst (λ xs. length s.sendings ≤ length xs) (sym (script-only t s text read)) (few-behind s) in
    omega (arith, few, within)
read-few t text most (Err fault) within read = tt
