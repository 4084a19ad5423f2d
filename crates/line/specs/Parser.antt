-- The walker as a struct of the line, a position and a state (document 01, 'Walker').
-- Public contracts rest on these definitions; they assume nothing.
use Rattle.std.specs.Prelude.{ℕ, zero, suc, ◌+◌, List, [], ◌∷◌, ltb, length, Option, Some, None, Result, Ok, Err}
use Rattle.std.specs.Borrow.{Bor}
use Rattle.line.specs.declared.parser.Error.{Error}
use Rattle.line.specs.declared.parser.Token.{Token}
use Rattle.text.specs.Bytes.{pick}
use Rattle.line.specs.declared.parser.Parser.{Parser}
use Rattle.line.specs.declared.parser.State.{State}
use Rattle.line.specs.declared.parser.Stepped.{Stepped}
use Rattle.line.specs.declared.parser.tokens.Tokens.{Tokens}
use Rattle.line.specs.Walker.{start_of, step_of}

-- the walker that is made over a line
abbrev pub parser_of : Bor (List ℕ) → Parser
parser_of s = record { «data» = s; pos = 0; state = start_of s.now }

-- the step before which a walker stands
abbrev pub step_from : Parser → Stepped
step_from p = step_of p.«data».now p.pos p.state

-- the walker after its step: the same line, the step's position and state
abbrev pub moved : Parser → Parser
moved p = record { «data» = p.«data»; pos = (step_from p).pos; state = (step_from p).state }

-- ---- the tokens of a line
-- what a walker answers, call after call, up to its end, or to a refusal that leaves it where it stands: after 1 or 2
-- "each further call gives 9", and a line that isn't UTF-8 "gives 10 on every call". At most as many calls as the first
-- number says.
unfoldable pub answers_from : ℕ → List ℕ → ℕ → State → List (Option (Result Token Error))
answers_from zero s p st = []
answers_from (suc n) s p st =
    pick (ltb p (length s))
    ((step_of s p st).answer ∷
    pick (ltb p (step_of s p st).pos) (answers_from n s (step_of s p st).pos (step_of s p st).state) [])
    []

-- one answer more: a token is counted, a refusal is kept
abbrev pub with_answer : Tokens → Option (Result Token Error) → Tokens
with_answer t (Some (Ok k)) = record { count = t.count + 1; last = t.last }
with_answer t (Some (Err e)) = record { count = t.count; last = Some e }
with_answer t None = t

unfoldable pub count_all : Tokens → List (Option (Result Token Error)) → Tokens
count_all t [] = t
count_all t (a ∷ rest) = count_all (with_answer t a) rest

-- all of a line's: a call that leads on takes a byte at least, so that there are no more calls than bytes
unfoldable pub tokens_of : List ℕ → Tokens
tokens_of s = count_all (record { count = 0; last = None }) (answers_from (length s) s 0 (start_of s))
