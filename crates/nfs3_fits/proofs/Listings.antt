-- Lists of entries have a spelling where their entries have one.
use Rattle.std.proofs.Common.{◌^◌, ◌≤◌, All, length, refl}
use Rattle.std.specs.Prelude.{IfSome}
use Rattle.xdr_grammar.specs.Items.{hyper}
use Rattle.xdr_grammar.specs.Entries.{entries}
use Rattle.xdr_grammar.proofs.Fits.{truth_fits}
use Rattle.nfs3_types.specs.declared.body.DirEntry.{DirEntry}
use Rattle.nfs3_types.specs.declared.body.DirEntryPlus.{DirEntryPlus}
use Rattle.nfs3_types.specs.declared.body.ReadDirOk.{ReadDirOk}
use Rattle.nfs3_types.specs.declared.body.ReadDirPlusOk.{ReadDirPlusOk}
use Rattle.nfs3_types.specs.Attributes.{post_op_attr}
use Rattle.nfs3_types.specs.Calls.{verifier}
use Rattle.nfs3_types.specs.Replies.{dir_entry, dir_entry_plus, read_dir_ok, read_dir_plus_ok}
use Rattle.nfs3_fits.proofs.Structures.{text_fits_by, post_handle_fits_by}

pub dir_entry_fits_by : (r : DirEntry) → hyper.Fits r.fileid → length r.name ≤ 2 ^ 20 → hyper.Fits r.cookie → dir_entry.Fits r
unfolding dir_entry
dir_entry_fits_by r fileid name cookie = record {
  first = fileid;
  second = record {
    first = text_fits_by r.name name;
    second =
        record { first = cookie; second = refl };
  };
}

pub dir_entry_plus_fits_by : (r : DirEntryPlus) → hyper.Fits r.fileid → length r.name ≤ 2 ^ 20 → hyper.Fits r.cookie
    → post_op_attr.Fits r.attributes → IfSome r.object (λ h. length h ≤ 64) → dir_entry_plus.Fits r
unfolding dir_entry_plus
dir_entry_plus_fits_by r fileid name cookie attributes object =
    record {
      first = fileid;
      second =
          record {
            first = text_fits_by r.name name;
            second =
                record {
                  first = cookie;
                  second =
                      record {
                        first = attributes;
                        second =
                            record { first = post_handle_fits_by r.object object; second = refl };
                      };
                };
          };
    }

pub read_dir_fits_by : (r : ReadDirOk) → post_op_attr.Fits r.attributes → verifier.Fits r.verifier → All dir_entry.Fits r.entries
    → read_dir_ok.Fits r
unfolding read_dir_ok entries
read_dir_fits_by r attributes verifier entries =
    record {
      first = attributes;
      second =
          record {
            first = verifier;
            second =
                record {
                  first = entries;
                  second =
                      record { first = truth_fits r.eof; second = refl };
                };
          };
    }

pub read_dir_plus_fits_by : (r : ReadDirPlusOk) → post_op_attr.Fits r.attributes → verifier.Fits r.verifier
    → All dir_entry_plus.Fits r.entries → read_dir_plus_ok.Fits r
unfolding read_dir_plus_ok entries
read_dir_plus_fits_by r attributes verifier entries =
    record {
      first = attributes;
      second =
          record {
            first = verifier;
            second =
                record {
                  first = entries;
                  second =
                      record { first = truth_fits r.eof; second = refl };
                };
          };
    }
