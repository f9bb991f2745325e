-- A7, "Two strips into one", by computation on the definitions: from the bytes of two rule strips and the length of out to what join returns
-- and the bytes at the front of out. Assumes nothing.
use Prim.Native.Nat.{ℕ}
use mathlib.Core.Path.{◌≡◌, refl}
use mathlib.Core.List.{List, [], ◌∷◌, map}
use lib.ListN.{take, replicate}
use Rattle.bits.specs.Bits.{digits, bits, any_set, first_set, bit_length, pack}
use Rattle.rule_strip.specs.RuleStrip.{record_at, records_from, records_of, first_use, second_use, record_fault, records_fault, head_fault, rule_fault}
use Rattle.rule_strip.specs.RuleWriting.{record_bits, strip_of_rule}
use Rattle.std.specs.Prelude.{Result, Ok, Err}
use Rattle.refusals.specs.declared.Reason.{Reason}
use Rattle.refusals.specs.declared.Reason.TheVariants as reason
use Rattle.refusals.specs.declared.Refusal.TheVariants.{Placed, Plain}
use Rattle.rule_strip.specs.declared.write.Written.{Written}
use Rattle.join.specs.JoinedRule.{moved, moved_all, joined_records}
use Rattle.join.specs.Joining.{records_refusal, rule_out_refusal, join_refusal, joined_strip, written_of, join_of, out_after_join}
use Rattle.join.specs.declared.JoinFault.{JoinFault}
use Rattle.examples.proofs.Decided.{Question, Answer, answer, with, rec, is, shown, none, sing}

-- what join is asked, and with how many bytes of out, each of them 255
pub record JoinRequest : Type 0 where
  pub first : List ℕ
  pub second : List ℕ
  pub room : ℕ

-- what it tells, and the first 18 bytes of out then
pub record JoinTold : Type 0 where
  pub answer : Result Written JoinFault
  pub front : List ℕ

abbrev ask : List ℕ → List ℕ → ℕ → JoinRequest
ask a b room = record { first = a; second = b; room = room }

-- whoever unfolds it has all that join is defined by
unfoldable pub told : JoinRequest → JoinTold
unfolding digits bits any_set first_set bit_length pack record_at records_from records_of first_use second_use record_fault records_fault head_fault rule_fault
    record_bits strip_of_rule moved moved_all joined_records records_refusal rule_out_refusal join_refusal joined_strip written_of join_of out_after_join
told q = record {
  answer = join_of q.first q.second q.room;
  front = take 18 (out_after_join q.first q.second (replicate q.room 255));
}

-- n = 1, X0 = ε
abbrev root : List ℕ
root = 0x11 ∷ 0x01 ∷ 0x40 ∷ 0x00 ∷ 0x00 ∷ []

-- example f of document 01: n = 2, X0 = X1 1
abbrev inside : List ℕ
inside = 0x12 ∷ 0x01 ∷ 0x20 ∷ 0x00 ∷ 0x40 ∷ []

-- n = 3, 0: Sing(X2); 1: exists X2: 0; 2: not 1; 3: not 2
abbrev hidden : List ℕ
hidden = 0x13 ∷ 0x04 ∷ 0x10 ∷ 0x40 ∷ 0x20 ∷ 0x10 ∷ 0x05 ∷ 0x02 ∷ 0x01 ∷ 0x41 ∷ 0x00 ∷ []

-- version 2, and a strip that was cut
abbrev later : List ℕ
later = 0x21 ∷ 0x01 ∷ 0x40 ∷ 0x00 ∷ 0x00 ∷ []

abbrev cut : List ℕ
cut = 0x12 ∷ 0x01 ∷ 0x20 ∷ []

-- n = 1, Sing(X0) sixty-four times
abbrev many : List ℕ
many = strip_of_rule 1 (replicate 64 (record { op = 1; first = 0; second = 0 }))

-- one variable and two make document 01's example i; two and three, either way round; a strip with itself; a fault in either strip, and in both;
-- 129 records, and too little room besides; a byte too little
pub requests : List JoinRequest
requests =
    ask root inside 290
    ∷ ask inside hidden 290
    ∷ ask hidden inside 291
    ∷ ask inside inside 290
    ∷ ask later root 290
    ∷ ask root cut 0
    ∷ ask cut later 290
    ∷ ask many many 289
    ∷ ask root inside 289
    ∷ []

abbrev untouched : List ℕ
untouched = replicate 18 255

abbrev wrote : ℕ → ℕ → ℕ → Result Written JoinFault
wrote n m size = Ok (record { variables = n; records = m; length = size })

-- a strip's fault, with its place and which strip's it is; and another refusal
abbrev fault : Reason → ℕ → ℕ → Result Written JoinFault
fault k p strip = Err (record { refusal = Placed (record { reason = k; place = p }); strip = strip })

abbrev turned_down : Reason → Result Written JoinFault
turned_down k = Err (record { refusal = Plain k; strip = 0 })

pub answers : List JoinTold
answers =
    record { answer = wrote 2 3 9; front = 0x12 ∷ 0x03 ∷ 0x40 ∷ 0x00 ∷ 0x08 ∷ 0x00 ∷ 0x17 ∷ 0x00 ∷ 0x04 ∷ replicate 9 255 }
    ∷ record {
      answer = wrote 3 6 16;
      front =
          0x13 ∷ 0x06 ∷ 0x20 ∷ 0x00 ∷ 0x44 ∷ 0x10 ∷ 0x08 ∷ 0x04 ∷ 0x05 ∷ 0x41 ∷ 0x00 ∷ 0x50 ∷ 0x60 ∷ 0x1C ∷ 0x00 ∷ 0x40 ∷ 255 ∷ 255 ∷ [];
    }
    ∷ record {
      answer = wrote 3 6 16;
      front =
          0x13 ∷ 0x06 ∷ 0x10 ∷ 0x40 ∷ 0x20 ∷ 0x10 ∷ 0x05 ∷ 0x02 ∷ 0x01 ∷ 0x41 ∷ 0x00 ∷ 0x20 ∷ 0x00 ∷ 0x5C ∷ 0x18 ∷ 0x40 ∷ 255 ∷ 255 ∷ [];
    }
    ∷ record { answer = wrote 2 3 9; front = 0x12 ∷ 0x03 ∷ 0x20 ∷ 0x00 ∷ 0x48 ∷ 0x00 ∷ 0x17 ∷ 0x00 ∷ 0x04 ∷ replicate 9 255 }
    ∷ record { answer = fault reason.RuleVersion 0 1; front = untouched }
    ∷ record { answer = fault reason.RuleLength 24 2; front = [] }
    ∷ record { answer = fault reason.RuleLength 24 1; front = untouched }
    ∷ record { answer = turned_down reason.JoinedRecords; front = untouched }
    ∷ record { answer = turned_down reason.RuleOut; front = untouched }
    ∷ []

pub joins-told : map told requests ≡ answers
unfolding told requests answers
joins-told = refl

-- the first joined rule, and Sing(X0) over one variable with example f, decided: "none", as example i is, and a tree
pub questions : List Question
unfolding joined_strip joined_records
questions = with 64 255 (joined_strip root inside) ∷ with 64 255 (joined_strip sing inside) ∷ []

pub verdicts : List Answer
verdicts =
    is 2 (rec 4 0 0 ∷ rec 2 0 1 ∷ rec 7 0 1 ∷ []) (none 1) []
    ∷ is 2 (rec 1 0 0 ∷ rec 2 0 1 ∷ rec 7 0 1 ∷ []) (shown 2 4 3) (0x12 ∷ 0xB8 ∷ 0x00 ∷ [])
    ∷ []

pub joined-decided : map answer questions ≡ verdicts
unfolding told answer questions verdicts
joined-decided = refl
