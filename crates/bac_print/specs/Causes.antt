-- What the numbers of a refusal mean: error codes, reject reasons and abort reasons (clauses 18 and 21).
use Rattle.std.specs.Prelude.{ℕ, List, [], ◌∷◌, ◌-◌, codes, if◌then◌else◌, nat_lt, slice_index_or}

-- the error codes from 0 to 13
abbrev pub error_codes_0 : List (List ℕ)
error_codes_0 =
    codes "other"
    ∷ codes "authentication failed"
    ∷ codes "configuration in progress"
    ∷ codes "device busy"
    ∷ codes "dynamic creation not supported"
    ∷ codes "file access denied"
    ∷ codes "incompatible security levels"
    ∷ codes "inconsistent parameters"
    ∷ codes "inconsistent selection criterion"
    ∷ codes "invalid data type"
    ∷ codes "invalid file access method"
    ∷ codes "invalid file start position"
    ∷ codes "invalid operator name"
    ∷ codes "invalid parameter data type" ∷ []

-- the error codes from 14 to 27
abbrev pub error_codes_1 : List (List ℕ)
error_codes_1 =
    codes "invalid time stamp"
    ∷ codes "key generation error"
    ∷ codes "missing required parameter"
    ∷ codes "no objects of specified type"
    ∷ codes "no space for object"
    ∷ codes "no space to add list element"
    ∷ codes "no space to write property"
    ∷ codes "no VT sessions available"
    ∷ codes "property is not a list"
    ∷ codes "object deletion not permitted"
    ∷ codes "object identifier already exists"
    ∷ codes "operational problem"
    ∷ codes "password failure"
    ∷ codes "read access denied" ∷ []

-- the error codes from 28 to 41; 33 has no meaning any more
abbrev pub error_codes_2 : List (List ℕ)
error_codes_2 =
    codes "security not supported"
    ∷ codes "service request denied"
    ∷ codes "timeout"
    ∷ codes "unknown object"
    ∷ codes "unknown property"
    ∷ codes ""
    ∷ codes "unknown VT class"
    ∷ codes "unknown VT session"
    ∷ codes "unsupported object type"
    ∷ codes "value out of range"
    ∷ codes "VT session already closed"
    ∷ codes "VT session termination failure"
    ∷ codes "write access denied"
    ∷ codes "character set not supported" ∷ []

-- the error codes from 42 to 55
abbrev pub error_codes_3 : List (List ℕ)
error_codes_3 =
    codes "invalid array index"
    ∷ codes "COV subscription failed"
    ∷ codes "not COV property"
    ∷ codes "optional functionality not supported"
    ∷ codes "invalid configuration data"
    ∷ codes "datatype not supported"
    ∷ codes "duplicate name"
    ∷ codes "duplicate object id"
    ∷ codes "property is not an array"
    ∷ codes "abort: buffer overflow"
    ∷ codes "abort: invalid APDU in this state"
    ∷ codes "abort: preempted by higher priority task"
    ∷ codes "abort: segmentation not supported"
    ∷ codes "abort: proprietary" ∷ []

-- the error codes from 56 to 69
abbrev pub error_codes_4 : List (List ℕ)
error_codes_4 =
    codes "abort: other"
    ∷ codes "invalid tag"
    ∷ codes "network down"
    ∷ codes "reject: buffer overflow"
    ∷ codes "reject: inconsistent parameters"
    ∷ codes "reject: invalid parameter data type"
    ∷ codes "reject: invalid tag"
    ∷ codes "reject: missing required parameter"
    ∷ codes "reject: parameter out of range"
    ∷ codes "reject: too many arguments"
    ∷ codes "reject: undefined enumeration"
    ∷ codes "reject: unrecognized service"
    ∷ codes "reject: proprietary"
    ∷ codes "reject: other" ∷ []

-- the error codes from 70 to 83
abbrev pub error_codes_5 : List (List ℕ)
error_codes_5 =
    codes "unknown device"
    ∷ codes "unknown route"
    ∷ codes "value not initialized"
    ∷ codes "invalid event state"
    ∷ codes "no alarm configured"
    ∷ codes "log buffer full"
    ∷ codes "logged value purged"
    ∷ codes "no property specified"
    ∷ codes "not configured for triggered logging"
    ∷ codes "unknown subscription"
    ∷ codes "parameter out of range"
    ∷ codes "list element not found"
    ∷ codes "busy"
    ∷ codes "communication disabled" ∷ []

-- the error codes from 84 to 97
abbrev pub error_codes_6 : List (List ℕ)
error_codes_6 =
    codes "success"
    ∷ codes "access denied"
    ∷ codes "bad destination address"
    ∷ codes "bad destination device id"
    ∷ codes "bad signature"
    ∷ codes "bad source address"
    ∷ codes "bad timestamp"
    ∷ codes "cannot use key"
    ∷ codes "cannot verify message id"
    ∷ codes "correct key revision"
    ∷ codes "destination device id required"
    ∷ codes "duplicate message"
    ∷ codes "encryption not configured"
    ∷ codes "encryption required" ∷ []

-- the error codes from 98 to 111
abbrev pub error_codes_7 : List (List ℕ)
error_codes_7 =
    codes "incorrect key"
    ∷ codes "invalid key data"
    ∷ codes "key update in progress"
    ∷ codes "malformed message"
    ∷ codes "not key server"
    ∷ codes "security not configured"
    ∷ codes "source security required"
    ∷ codes "too many keys"
    ∷ codes "unknown authentication type"
    ∷ codes "unknown key"
    ∷ codes "unknown key revision"
    ∷ codes "unknown source message"
    ∷ codes "not router to DNET"
    ∷ codes "router busy" ∷ []

-- the error codes from 112 to 125
abbrev pub error_codes_8 : List (List ℕ)
error_codes_8 =
    codes "unknown network message"
    ∷ codes "message too long"
    ∷ codes "security error"
    ∷ codes "addressing error"
    ∷ codes "write BDT failed"
    ∷ codes "read BDT failed"
    ∷ codes "register foreign device failed"
    ∷ codes "read FDT failed"
    ∷ codes "delete FDT entry failed"
    ∷ codes "distribute broadcast failed"
    ∷ codes "unknown file size"
    ∷ codes "abort: APDU too long"
    ∷ codes "abort: application exceeded reply time"
    ∷ codes "abort: out of resources" ∷ []

-- the error codes from 126 to 138
abbrev pub error_codes_9 : List (List ℕ)
error_codes_9 =
    codes "abort: TSM timeout"
    ∷ codes "abort: window size out of range"
    ∷ codes "file full"
    ∷ codes "inconsistent configuration"
    ∷ codes "inconsistent object type"
    ∷ codes "internal error"
    ∷ codes "not configured"
    ∷ codes "out of memory"
    ∷ codes "value too long"
    ∷ codes "abort: insufficient security"
    ∷ codes "abort: security error"
    ∷ codes "duplicate entry"
    ∷ codes "invalid value in this state" ∷ []

-- what an error code means; nothing behind the last that the standard names
abbrev pub error_code_text : ℕ → List ℕ
error_code_text code =
    if nat_lt code 14 then slice_index_or error_codes_0 code [] else
    if nat_lt code 28 then slice_index_or error_codes_1 (code - 14) [] else
    if nat_lt code 42 then slice_index_or error_codes_2 (code - 28) [] else
    if nat_lt code 56 then slice_index_or error_codes_3 (code - 42) [] else
    if nat_lt code 70 then slice_index_or error_codes_4 (code - 56) [] else
    if nat_lt code 84 then slice_index_or error_codes_5 (code - 70) [] else
    if nat_lt code 98 then slice_index_or error_codes_6 (code - 84) [] else
    if nat_lt code 112 then slice_index_or error_codes_7 (code - 98) [] else
    if nat_lt code 126 then slice_index_or error_codes_8 (code - 112) [] else
    slice_index_or error_codes_9 (code - 126) []

-- the reject reasons, from 0 on
abbrev pub reject_reasons : List (List ℕ)
reject_reasons =
    codes "other"
    ∷ codes "buffer overflow"
    ∷ codes "inconsistent parameters"
    ∷ codes "invalid parameter data type"
    ∷ codes "invalid tag"
    ∷ codes "missing required parameter"
    ∷ codes "parameter out of range"
    ∷ codes "too many arguments"
    ∷ codes "undefined enumeration"
    ∷ codes "unrecognized service" ∷ []

-- the abort reasons, from 0 on
abbrev pub abort_reasons : List (List ℕ)
abort_reasons =
    codes "other"
    ∷ codes "buffer overflow"
    ∷ codes "invalid APDU in this state"
    ∷ codes "preempted by higher priority task"
    ∷ codes "segmentation not supported"
    ∷ codes "security error"
    ∷ codes "insufficient security"
    ∷ codes "window size out of range"
    ∷ codes "application exceeded reply time"
    ∷ codes "out of resources"
    ∷ codes "TSM timeout"
    ∷ codes "APDU too long" ∷ []
