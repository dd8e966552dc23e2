-- The laws of handles, and what this service's handles say.
use Rattle.std.proofs.Common.{◌≡◌, ℕ, ◌-◌, List, [], ◌++◌, length, take, drop, Result, Ok, Err, Some, None, refl, sym, ap, ◌∙◌}
use Rattle.std.proofs.Common.{arith}
use Rattle.std.proofs.lemmas.List.{append-nil, take-append-drop, take_all, drop-drop, length-take, length-drop}
use Rattle.byteorder.specs.Endian.{big_number}
use Rattle.xdr_grammar.specs.declared.fault.XdrFault.{XdrFault}
use Rattle.xdr_grammar.specs.Items.{hyper}
use Rattle.xdr_grammar.specs.Whole.{whole}
use Rattle.xdr_grammar.specs.Laws.{Laws}
use Rattle.xdr_grammar.proofs.Rules.{grammar_laws}
use Rattle.xdr_grammar.proofs.Whole.{whole-laws}
use Rattle.nfs3_types.specs.declared.handle.Handle.{Handle}
use Rattle.nfs3_types.specs.Handles.{file_handle, post_op_handle, handle, if_read, handle_in}

pub file_handle-laws : Laws file_handle
unfolding file_handle
file_handle-laws = search grammar_laws

pub post_op_handle-laws : Laws post_op_handle
unfolding post_op_handle
post_op_handle-laws = search (grammar_laws, file_handle-laws)

pub handle-laws : Laws handle
unfolding handle
handle-laws = search grammar_laws

-- bytes of another length are no handle of this service
read_length : (bytes : List ℕ) (reading : Result Handle XdrFault) → whole handle bytes ≡ reading → (length bytes ≡ 24 → ⊥)
    → None ≡ if_read reading
unfolding handle hyper
read_length bytes (Ok h) e wrong = absurd (wrong (handle-laws.sized h bytes ((whole-laws handle handle-laws).found bytes h e)))
read_length bytes (Err fault) e wrong = refl

pub handle_in-wrong : (bytes : List ℕ) → (length bytes ≡ 24 → ⊥) → None ≡ handle_in bytes
handle_in-wrong bytes wrong = read_length bytes (whole handle bytes) refl wrong

-- and 24 bytes are one
handle_spells : (bytes : List ℕ) → length bytes ≡ 24
    → handle.Spells (record {
      fsid = big_number 8 (take 8 bytes);
      snapshot = big_number 8 (take 8 (drop 8 bytes));
      fileid =
          big_number 8 (take (length bytes - 16) (drop 16 bytes));
    }) bytes
unfolding handle hyper
handle_spells bytes long =
    let middle = drop 8 bytes in
    let last : drop 8 middle ≡ drop 16 bytes = drop-drop 8 8 bytes in
    record {
      front = take 8 bytes;
      back = middle;
      parts = sym (take-append-drop 8 bytes);
      first = record { long = omega (arith, length-take 8 bytes); value = refl };
      second = record {
        front = take 8 middle;
        back = drop 16 bytes;
        parts = sym (take-append-drop 8 middle) ∙ ap (λ (t : List ℕ). take 8 middle ++ t) last;
        first = record { long = omega (arith, length-take 8 middle, length-drop 8 bytes); value = refl };
        second = record {
          front = drop 16 bytes;
          back = [];
          parts = sym (append-nil (drop 16 bytes));
          first = record {
            long = omega (arith, length-drop 16 bytes);
            value =
                ap (big_number 8) (sym (take_all (length bytes - 16) (drop 16 bytes) (omega (arith, length-drop 16 bytes))));
          };
          second = record { is = refl; empty = refl };
        };
      };
    }

pub handle_in-right : (bytes : List ℕ) → length bytes ≡ 24
    → Some (record {
      fsid = big_number 8 (take 8 bytes);
      snapshot = big_number 8 (take 8 (drop 8 bytes));
      fileid =
          big_number 8 (take (length bytes - 16) (drop 16 bytes));
    }) ≡ handle_in bytes
handle_in-right bytes long = ap if_read (sym ((whole-laws handle handle-laws).again _ bytes (handle_spells bytes long)))
