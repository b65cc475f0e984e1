-- What the reader goes by: an indication and its value, and what is none. Assumes nothing.
use Rattle.std.specs.Prelude.{ℕ, suc, ◌≤◌, ◌-◌, ◌≡◌, refl, Bool, true, false, cond, ◌&&◌, List, [], eqb, leb, length, get_or, take, drop}
use Rattle.std.proofs.Common.{sym, ap, ◌∙◌, arith, eqb-true, leb-true, length-drop, take_all}
use Rattle.std.proofs.Math.Option.{none, some}
use Rattle.model.proofs.Laws.{and_left, and_right}
use Rattle.limits.specs.declared.Field.TheVariants as field
use Rattle.limits.specs.Limits.{within}
use Rattle.wire.specs.Wire.{u16_at}
use Rattle.att_pdu.specs.Format.{exchange_mtu_req, exchange_mtu_rsp, handle_value_ind, handle_value_cfm}
use Rattle.att_pdu.specs.Read.{is_pdu, is_indication, message_in, value_of}

-- ---- an indication, and what is none

module _ (s : List ℕ) (e : is_indication s ≡ true) where
  behind_length : (eqb (get_or s 0 0) 0x1D && within field.ValueLen (length s - 3)) ≡ true
  behind_length = and_right (leb 3 (length s)) _ e

  pub long_enough : 3 ≤ length s
  long_enough = leb-true 3 (length s) (and_left _ _ e)

  pub has_opcode : get_or s 0 0 ≡ 0x1D
  has_opcode = eqb-true (get_or s 0 0) 0x1D (and_left (eqb (get_or s 0 0) 0x1D) _ behind_length)

  pub fits : within field.ValueLen (length s - 3) ≡ true
  fits = and_right (eqb (get_or s 0 0) 0x1D) (within field.ValueLen (length s - 3)) behind_length

other : (a : Bool) (x code : ℕ) → x ≡ 0x1D → eqb 0x1D code ≡ false → (a && eqb x code) ≡ false
other true x code e h = ap (λ (n : ℕ). eqb n code) e ∙ h
other false x code e h = refl

-- it is none of the other messages
pub indication_in : (s : List ℕ) → is_indication s ≡ true → message_in s ≡ some (handle_value_ind (u16_at s 1) (drop 3 s))
indication_in s e =
    let o = has_opcode s e in
    simp (other (eqb (length s) 3) (get_or s 0 0) 0x02 o refl, other (eqb (length s) 3) (get_or s 0 0) 0x03 o refl, other (eqb (length s) 1) (get_or s 0 0) 0x1E o refl, e)

-- its value is what stands behind its first three bytes
pub the_value : (s : List ℕ) → is_indication s ≡ true → take (length s - 3) (drop 3 s) ≡ value_of (message_in s)
the_value s e =
    take_all (length s - 3) (drop 3 s) (simp length-drop (omega arith))
    ∙ ap value_of (sym (indication_in s e))

none_of : (a b c d : Bool) (x y h : ℕ) (l : List ℕ) → d ≡ false →
    value_of (cond a (some (exchange_mtu_req x)) (cond b (some (exchange_mtu_rsp y)) (cond c (some handle_value_cfm) (cond d (some (handle_value_ind h l)) none)))) ≡ []
none_of true b c d x y h l e = refl
none_of false true c d x y h l e = refl
none_of false false true d x y h l e = refl
none_of false false false d x y h l e = simp e

pub no_value : (s : List ℕ) → is_indication s ≡ false → value_of (message_in s) ≡ []
no_value s e = none_of (is_pdu 0x02 3 s) (is_pdu 0x03 3 s) (is_pdu 0x1E 1 s) (is_indication s) _ _ _ _ e

-- the length of the value
pub less_three : (n : ℕ) → suc (suc (suc n)) - 3 ≡ n
less_three n = omega arith
