-- A refusal's number and place.
use Rattle.std.specs.Prelude.{ℕ, Some, None, Option}
use Rattle.modelfile.specs.declared.fault.ByteFault.TheVariants.{Lacking}
use Rattle.modelfile.specs.declared.fault.RecordFault.TheVariants.{Bytes, UnknownBit}
use Rattle.modelfile.specs.declared.fault.FileFault.{FileFault}
use Rattle.modelfile.specs.declared.fault.FileFault.TheVariants.{Unread, Trailing, TooLong, ShortList}
use Rattle.modelfile.specs.declared.fault.FileNotice.{FileNotice}

abbrev pub noted : ℕ → Option ℕ → FileNotice
noted number place = record { number = number; place = place }

-- the number of each refusal, with the start of the field, the bit map, or the first byte too many;
-- a file that is too long and a list that is too short have no place
abbrev pub notice_of : FileFault → FileNotice
notice_of (Unread (Bytes (Lacking at))) = noted 31 (Some at)
notice_of (Unread (UnknownBit at)) = noted 32 (Some at)
notice_of (Trailing at) = noted 33 (Some at)
notice_of TooLong = noted 34 None
notice_of ShortList = noted 26 None
